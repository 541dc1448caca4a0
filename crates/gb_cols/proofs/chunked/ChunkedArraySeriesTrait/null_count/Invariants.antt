use Rattle.std.proofs.Common.{◌≡◌}
use Rattle.gb_cols.proofs.ChunkedLemmas.{nulls_before}
use Rattle.gb_cols.proofs.chunked.ChunkedArraySeriesTrait.null_count.Given as goal

abbrev pub invariant-loop-chunk : goal.invariant-loop-chunk
invariant-loop-chunk g l = l.total ≡ nulls_before l.chunk-items l.chunk-index
