use Rattle.std.proofs.Common.{◌≡◌, ◌+◌, ◌<◌, ◌^◌, length}
use Rattle.std.specs.List.{flat_map}
use Rattle.gb_defs.specs.ColumnType.{BinaryOffset, Flat}
use Rattle.gb_rows.specs.Parts.{AreRowChunks, with_behind}
use Rattle.gb_rows.proofs.vertical.join_chunks.Given as goal

-- with the chunks that are left the rows come to what they come to with all
abbrev pub invariant-loop-chunk : goal.invariant-loop-chunk
invariant-loop-chunk l = record {
  rows : with_behind l.rows l.chunk-iterator.rest.items ≡ with_behind l.initial.rows l.initial.chunk-iterator.rest.items;
  typed : l.rows.dtype ≡ Flat BinaryOffset;
  each : AreRowChunks l.chunk-iterator.rest.items;
  few : length l.rows.slots + length (flat_map (λ c. c.slots) l.chunk-iterator.rest.items) < 2 ^ 63;
}
