use Rattle.std.proofs.Common.{◌≡◌}
use Rattle.std.specs.List.{All}
use Rattle.gb_defs.specs.ColumnType.{Fits}
use Rattle.gb_cols.proofs.ChunkedLemmas.{before_chunk, front_slots}
use Rattle.gb_cols.proofs.chunked.ChunkedArraySeriesTrait.len.Given as goal

abbrev pub invariant-loop-chunk : goal.invariant-loop-chunk
invariant-loop-chunk g l =
    let front = front_slots l.chunk-items l.chunk-index in
    record { counted : l.total ≡ before_chunk l.chunk-items l.chunk-index; fitting : All (Fits g.V.Values.dtype) front }
