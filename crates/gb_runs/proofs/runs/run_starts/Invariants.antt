use Rattle.std.proofs.Common.{◌≡◌}
use Rattle.gb_runs.specs.Codes.{rows_in}
use Rattle.gb_runs.specs.Runs.{starts_in}
use Rattle.gb_runs.proofs.runs.run_starts.Given as goal

abbrev pub invariant-loop-place : goal.invariant-loop-place
invariant-loop-place g l = record {
  so_far : l.starts.items ≡ starts_in (rows_in l.column.slots) (l.first, l.place);
  near : l.near ≡ l.column.slots;
}
