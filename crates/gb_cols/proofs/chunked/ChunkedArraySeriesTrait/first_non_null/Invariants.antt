use Rattle.std.proofs.Common.{◌≡◌}
use Rattle.std.specs.List.{All}
use Rattle.gb_values.specs.Valid.{IsNull}
use Rattle.gb_cols.proofs.ChunkedLemmas.{before_chunk, front_slots}
use Rattle.gb_cols.proofs.chunked.ChunkedArraySeriesTrait.first_non_null.Given as goal

abbrev pub invariant-loop-chunk : goal.invariant-loop-chunk
invariant-loop-chunk g l =
    record { counted : l.before ≡ before_chunk l.chunk-items l.chunk-index; nulls : All IsNull (front_slots l.chunk-items l.chunk-index) }
