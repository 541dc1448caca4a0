use Rattle.std.proofs.Common.{◌≡◌}
use Rattle.gb_cols.proofs.ChunkedLemmas.{front_slots}
use Rattle.gb_cols.proofs.chunked.ChunkedArraySeriesTrait.rechunk.Given as goal

abbrev pub invariant-loop-chunk : goal.invariant-loop-chunk
invariant-loop-chunk g l = l.whole ≡ front_slots l.chunk-items l.chunk-index
