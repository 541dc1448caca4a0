use Rattle.std.proofs.Common.{◌≡◌, ◌≤◌, take, length}
use Rattle.gb_defs.specs.Fold.{valid, picked}
use Rattle.gb_agg.proofs.number_fold.valid_at.Given as goal

abbrev pub invariant-loop-place : goal.invariant-loop-place
invariant-loop-place g l = record {
  counted : l.count ≡ length (valid (picked (g.C.SeriesTrait.value l.column).slots (take l.place (g.R.GroupRows.rows l.rows))));
  few : l.count ≤ l.place;
}
