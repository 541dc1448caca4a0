use Rattle.std.proofs.Common.{◌≡◌, ◌++◌, ◌∷◌, [], drop}
use Rattle.gb_cols.proofs.SliceLemmas.{parts, shown_parts}
use Rattle.gb_cols.proofs.chunked.ChunkedArraySeriesTrait.slice.Given as goal

abbrev pub invariant-loop-chunk : goal.invariant-loop-chunk
invariant-loop-chunk g l =
    let last = l.self-inside.last in
    l.parts.items ++ parts l.from l.to (drop l.chunk-index l.chunk-items ++ last ∷ []) ≡ shown_parts (l.chunk-items ++ last ∷ []) l.offset l.len
