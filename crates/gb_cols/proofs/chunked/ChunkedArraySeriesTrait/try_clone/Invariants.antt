use Rattle.std.proofs.Common.{◌≡◌, take}
use Rattle.gb_cols.proofs.chunked.ChunkedArraySeriesTrait.try_clone.Given as goal

abbrev pub invariant-loop-chunk : goal.invariant-loop-chunk
invariant-loop-chunk g l = l.earlier.items ≡ take l.chunk-index l.chunk-items
