use Rattle.std.proofs.Common.{◌≡◌, ◌≤◌, map, vec_capacity}
use Rattle.std.specs.List.{range_with_len}
use Rattle.gb_paths.proofs.row_hashes.hash_rows.Given as goal

abbrev pub invariant-loop-place : goal.invariant-loop-place
invariant-loop-place g l = record {
  so_far : l.hashes.items ≡ map (g.R.KeyRows.rows l.rows).hash (range_with_len l.start l.place);
  room : l.count ≤ vec_capacity l.hashes;
}
