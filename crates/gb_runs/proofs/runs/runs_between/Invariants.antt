use Rattle.std.proofs.Common.{◌≡◌, ◌≤◌, length, map, vec_capacity}
use Rattle.std.specs.List.{range_with_len}
use Rattle.gb_runs.specs.Runs.{run_at}
use Rattle.gb_runs.proofs.runs.runs_between.Given as goal

abbrev pub invariant-loop-place : goal.invariant-loop-place
invariant-loop-place l = record {
  so_far : l.runs.items ≡ map (run_at l.starts l.count) (range_with_len 0 l.place);
  each : length l.runs.items ≡ l.place;
  room : length l.starts ≤ vec_capacity l.runs;
}
