use Rattle.std.proofs.Common.{◌≡◌, map}
use Rattle.gb_values.specs.Keys.{bytes_slot}
use Rattle.gb_cols.proofs.ChunkedLemmas.{front_slots}
use Rattle.gb_cols.proofs.bytes.ChunkedArray+ByteValues+K.byte_slices.Given as goal

abbrev pub invariant-loop-chunk : goal.invariant-loop-chunk
invariant-loop-chunk g l = map bytes_slot l.keys.items ≡ front_slots l.chunk-items l.chunk-index
