use Rattle.std.proofs.Common.{◌≡◌, ◌<◌, IfSome, None, length}
use Rattle.gb_values.specs.SlotOrder.{fresh_walk, last_slot, later_slot, walked}
use Rattle.gb_cols.proofs.ChunkedLemmas.{front_slots}
use Rattle.gb_cols.proofs.chunked.ChunkedArraySeriesTrait.order.Given as goal

abbrev pub invariant-loop-chunk : goal.invariant-loop-chunk
invariant-loop-chunk g l =
    let front = front_slots l.chunk-items l.chunk-index in
    record { walk : l.walk ≡ walked g.V.Values.dtype fresh_walk None front; last : last_slot l.before ≡ later_slot None front; some : IfSome l.before (λ chunk. 0 < length chunk.now) }
