use Rattle.std.proofs.Common.{◌≡◌, MatchOption}
use Rattle.std.specs.List.{All}
use Rattle.gb_defs.specs.Column.{IsLastValid}
use Rattle.gb_values.specs.Valid.{IsNull}
use Rattle.gb_cols.proofs.ChunkedLemmas.{before_chunk, front_slots}
use Rattle.gb_cols.proofs.chunked.ChunkedArraySeriesTrait.last_non_null.Given as goal

abbrev pub invariant-loop-chunk : goal.invariant-loop-chunk
invariant-loop-chunk g l =
    let front = front_slots l.chunk-items l.chunk-index in
    record { counted : l.before ≡ before_chunk l.chunk-items l.chunk-index; last : MatchOption l.found (All IsNull front) (IsLastValid front) }
