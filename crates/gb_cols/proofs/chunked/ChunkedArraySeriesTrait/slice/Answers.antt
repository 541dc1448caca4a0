use Rattle.std.proofs.Common.{◌++◌, ◌∷◌, [], ◌∙◌, ap}
use Rattle.std.specs.Int.{w64}
use Rattle.std.proofs.lemmas.Int.{to_z-of_z}
use Rattle.gb_defs.specs.Column.{sliced}
use Rattle.gb_defs.specs.Slices.{or_one}
use Rattle.gb_cols.specs.Column.{column_of}
use Rattle.gb_base.specs.Sorted.{flag_of}
use Rattle.gb_cols.proofs.CopyLemmas.{small_sliced, view_sliced}
use Rattle.gb_cols.proofs.SliceLemmas.{parts_end, shown_parts}
use Rattle.gb_cols.proofs.chunked.ChunkedArraySeriesTrait.slice.Goals as goal

pub invariant_of-result : goal.invariant_of-result
invariant_of-result g c =
    let offset = c.args.offset in
    let len = c.args.len in
    let chunks = c.deref-chunk-items.result.now in
    let last = c.self.inside.last in
    let so_far = rw (to_z-of_z w64 offset c.ranges.offset) at c.loop-chunk.invariant in
    let end = parts_end c.loop-chunk.parts.items _ chunks last c.loop-chunk.from c.loop-chunk.to c.loop-chunk.chunk-index c.loop-chunk-test.false so_far in
    let made = c.pop_chunk-last.ensures ∙ ap (or_one []) (c.in_ok-push_part-2.ensures ∙ end)
    ∙ ap (λ es. or_one [] (shown_parts (es ++ last ∷ []) offset len)) c.deref-chunk-items.ensures.value in
    small_sliced g.V.Values.dtype _ (flag_of c.self.inside.sorted) (c.self.inside.earlier.items ++ last ∷ []) offset len _ made c.self.invariant _

pub returns-clause-ok : goal.returns-clause-ok
returns-clause-ok g c =
    let t = g.V.Values.dtype in
    let flag = flag_of c.self.inside.sorted in
    let offset = c.args.offset in
    let len = c.args.len in
    let chunks = c.deref-chunk-items.result.now in
    let last = c.self.inside.last in
    let so_far = rw (to_z-of_z w64 offset c.ranges.offset) at c.loop-chunk.invariant in
    let end = parts_end c.loop-chunk.parts.items _ chunks last c.loop-chunk.from c.loop-chunk.to c.loop-chunk.chunk-index c.loop-chunk-test.false so_far in
    let made = c.pop_chunk-last.ensures ∙ ap (or_one []) (c.in_ok-push_part-2.ensures ∙ end)
    ∙ ap (λ es. or_one [] (shown_parts (es ++ last ∷ []) offset len)) c.deref-chunk-items.ensures.value in
    ap (λ n. column_of t n flag (c.pop_chunk-last.new.chunks.items ++ c.pop_chunk-last.result ∷ [])) c.in_ok-try_clone.ensures.ok
    ∙ view_sliced t _ flag (c.self.inside.earlier.items ++ last ∷ []) offset len _ made ∙ ap (sliced offset len) c.self.view_is
