use Rattle.std.proofs.Common.{◌≡◌, take}
use Rattle.gb_groups.specs.Slices.{slice_pairs}
use Rattle.gb_groups.proofs.same.same_runs.Given as goal

abbrev pub invariant-loop-place : goal.invariant-loop-place
invariant-loop-place l = slice_pairs (take l.place l.runs) ≡ slice_pairs (take l.place l.others)
