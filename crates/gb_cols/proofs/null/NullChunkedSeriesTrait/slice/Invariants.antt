use Rattle.std.proofs.Common.{◌≡◌, ◌++◌, ◌∷◌, [], drop}
use Rattle.gb_cols.proofs.NullSliceLemmas.{counts, shown_counts}
use Rattle.gb_cols.proofs.null.NullChunkedSeriesTrait.slice.Given as goal

abbrev pub invariant-loop-chunk : goal.invariant-loop-chunk
invariant-loop-chunk l =
    let last = l.self-inside.last in
    l.counts.items ++ counts l.from l.to (drop l.chunk-index l.chunk-items ++ last ∷ []) ≡ shown_counts (l.chunk-items ++ last ∷ []) l.offset l.len
