use Rattle.std.proofs.Common.{◌≡◌, ◌<◌, length}
use Rattle.gb_defs.specs.Slot.{slot_at}
use Rattle.gb_cols.proofs.ChunkedLemmas.{from_chunk}
use Rattle.gb_cols.proofs.chunked.ChunkedArray.locate.Given as goal

abbrev pub invariant-loop-chunk : goal.invariant-loop-chunk
invariant-loop-chunk g l =
    let rest = from_chunk l.chunk-items l.self-inside.last l.chunk-index in
    record { within : l.place < length rest; same : slot_at rest l.place ≡ slot_at l.self.slots l.row }
