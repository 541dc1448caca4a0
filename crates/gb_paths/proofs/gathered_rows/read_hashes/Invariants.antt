use Rattle.std.proofs.Common.{◌≡◌, ◌≤◌, get_or, length, map, take, vec_capacity}
use Rattle.gb_paths.proofs.gathered_rows.read_hashes.Given as goal

abbrev pub invariant-loop-place : goal.invariant-loop-place
invariant-loop-place g l = record {
  so_far : l.read.items ≡ map (λ row. get_or (g.H.RowHashes.hashes l.hashes) row 0) (take l.place l.members);
  each : length l.read.items ≡ l.place;
  room : length l.members ≤ vec_capacity l.read;
}
