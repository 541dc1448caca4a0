use Rattle.std.proofs.Common.{◌≡◌, map, take, length}
use Rattle.gb_cols.proofs.chunked.ChunkedArraySeriesTrait.chunk_lengths.Given as goal

abbrev pub invariant-loop-chunk : goal.invariant-loop-chunk
invariant-loop-chunk g l = l.lengths.items ≡ map length (take l.chunk-index l.chunk-items)
