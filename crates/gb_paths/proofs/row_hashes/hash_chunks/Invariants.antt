use Rattle.std.proofs.Common.{◌≡◌, ◌≤◌, length, vec_capacity}
use Rattle.gb_paths.specs.Hashes.{chunks_from, items_of}
use Rattle.gb_paths.proofs.row_hashes.hash_chunks.Given as goal

abbrev pub invariant-loop-place : goal.invariant-loop-place
invariant-loop-place g l = record {
  so_far : items_of l.chunks.items ≡ chunks_from (g.R.KeyRows.rows l.rows) (l.first, l.place);
  each : length l.chunks.items ≡ l.place;
  room : l.count ≤ vec_capacity l.chunks;
}
