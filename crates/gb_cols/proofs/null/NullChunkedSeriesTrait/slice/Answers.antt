use Rattle.std.proofs.Common.{◌++◌, ◌∷◌, [], ◌∙◌, ap, arith, length, refl, sym}
use Rattle.std.specs.Int.{w64}
use Rattle.std.specs.List.{sum}
use Rattle.std.proofs.lemmas.Int.{to_z-of_z}
use Rattle.gb_defs.specs.Column.{sliced}
use Rattle.gb_defs.specs.Slices.{or_one, slice_end, slice_start}
use Rattle.gb_cols.specs.Null.{null_column}
use Rattle.gb_base.specs.PlSmallStr.{name_of}
use Rattle.gb_cols.proofs.NullLemmas.{null_length}
use Rattle.gb_cols.proofs.NullSliceLemmas.{counts_end, made_few, null_sliced, shown_counts}
use Rattle.gb_cols.proofs.null.NullChunkedSeriesTrait.slice.Goals as goal

pub loop-chunk-init : goal.loop-chunk-init
loop-chunk-init c =
    let offset = c.args.offset in
    let len = c.args.len in
    let last = c.self.inside.last in
    let count = c.len.ensures.value ∙ ap (λ v. length v.slots) (sym c.self.view_is) ∙ null_length (name_of c.self.inside.name) (c.self.inside.earlier.items ++ last ∷ [])
    ∙ ap (λ es. sum (es ++ last ∷ [])) (sym c.deref-chunk-items.ensures.value) in
    let back = to_z-of_z w64 offset c.ranges.offset in
    let from = rw back at c.slice_bounds-from.ensures.start in
    let to = rw back at c.slice_bounds-from.ensures.end in
    let start = from ∙ ap (λ n. slice_start n offset) count in
    let end = to ∙ ap (λ n. slice_end n offset len) count in
    rw (back, c.new-counts.ensures.items, start, end) refl

pub invariant_of-result : goal.invariant_of-result
invariant_of-result c =
    let offset = c.args.offset in
    let len = c.args.len in
    let chunks = c.deref-chunk-items.result.now in
    let last = c.self.inside.last in
    let so_far = rw (to_z-of_z w64 offset c.ranges.offset) at c.loop-chunk.invariant in
    let end = counts_end c.loop-chunk.counts.items _ chunks last c.loop-chunk.from c.loop-chunk.to c.loop-chunk.chunk-index c.loop-chunk-test.false so_far in
    let made = c.pop_count-last.ensures ∙ ap (or_one 0) (c.in_ok-push_count-2.ensures ∙ end)
    ∙ ap (λ es. or_one 0 (shown_counts (es ++ last ∷ []) offset len)) c.deref-chunk-items.ensures.value in
    omega (arith, made_few (c.self.inside.earlier.items ++ last ∷ []) offset len _ made, c.self.invariant)

pub returns-clause-ok : goal.returns-clause-ok
returns-clause-ok c =
    let offset = c.args.offset in
    let len = c.args.len in
    let chunks = c.deref-chunk-items.result.now in
    let last = c.self.inside.last in
    let so_far = rw (to_z-of_z w64 offset c.ranges.offset) at c.loop-chunk.invariant in
    let end = counts_end c.loop-chunk.counts.items _ chunks last c.loop-chunk.from c.loop-chunk.to c.loop-chunk.chunk-index c.loop-chunk-test.false so_far in
    let made = c.pop_count-last.ensures ∙ ap (or_one 0) (c.in_ok-push_count-2.ensures ∙ end)
    ∙ ap (λ es. or_one 0 (shown_counts (es ++ last ∷ []) offset len)) c.deref-chunk-items.ensures.value in
    ap (λ n. null_column n (c.pop_count-last.new.counts.items ++ c.pop_count-last.result ∷ [])) c.in_ok-try_clone.ensures.ok
    ∙ null_sliced (c.self.inside.earlier.items ++ last ∷ []) offset len _ made (name_of c.self.inside.name) ∙ ap (sliced offset len) c.self.view_is
