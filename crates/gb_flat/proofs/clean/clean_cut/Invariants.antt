use Rattle.std.proofs.Common.{length, ◌-◌, ◌≡◌, ◌≤◌}
use Rattle.gb_flat.specs.Clean.{clean_cut}
use Rattle.gb_flat.proofs.clean.clean_cut.Given as goal

abbrev pub invariant-loop-cut : goal.invariant-loop-cut
invariant-loop-cut g l = record {
  up : l.at ≤ l.cut;
  within : l.cut ≤ length l.values;
  same : clean_cut g.T.PartialEq.eq l.values l.at ≡ clean_cut g.T.PartialEq.eq l.values l.cut;
}

abbrev pub decreases-loop-cut : goal.decreases-loop-cut
decreases-loop-cut g l = length l.values - l.cut
