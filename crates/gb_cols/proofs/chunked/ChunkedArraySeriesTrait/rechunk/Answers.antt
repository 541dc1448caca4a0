use Rattle.std.proofs.Common.{◌++◌, ◌∷◌, [], ◌∙◌, ap, sym, arith}
use Rattle.std.proofs.lemmas.List.{take_all}
use Rattle.gb_defs.specs.Column.{rechunked}
use Rattle.gb_cols.specs.Column.{column_of}
use Rattle.gb_base.specs.Sorted.{flag_of}
use Rattle.gb_cols.proofs.ChunkedLemmas.{all_slots, front_all, front_more}
use Rattle.gb_cols.proofs.CopyLemmas.{small_whole, view_whole}
use Rattle.gb_cols.proofs.chunked.ChunkedArraySeriesTrait.rechunk.Goals as goal

pub loop-chunk-preserved : goal.loop-chunk-preserved
loop-chunk-preserved g c =
    let chunks = c.deref-chunk-items.result.now in
    let chunk = c.chunk-item.result in
    let at = c.loop-chunk.chunk-index in
    let all = take_all c.len-in-loop-chunk.result chunk (omega (arith, c.len-in-loop-chunk.ensures.value)) in
    c.in_ok-extend_from.ensures.ok ∙ ap (λ ss. c.loop-chunk.whole ++ ss) all ∙ ap (λ ss. ss ++ chunk) c.loop-chunk.invariant
    ∙ sym (front_more chunks chunk at c.loop-chunk-test.true c.chunk-item.is)

pub invariant_of-result : goal.invariant_of-result
invariant_of-result g c =
    let chunks = c.deref-chunk-items.result.now in
    let earlier = c.self.inside.earlier.items in
    let last = c.self.inside.last in
    let at = c.loop-chunk.chunk-index in
    let all = take_all c.len-2.result last (omega (arith, c.len-2.ensures.value)) in
    let whole = c.in_ok-extend_from-2.ensures.ok ∙ ap (λ ss. c.loop-chunk.whole ++ ss) all ∙ ap (λ ss. ss ++ last) c.loop-chunk.invariant
    ∙ front_all chunks last at c.loop-chunk-test.false ∙ ap (λ es. all_slots es last) c.deref-chunk-items.ensures.value in
    rw c.new.ensures.items
    (small_whole g.V.Values.dtype _ (flag_of c.self.inside.sorted) (earlier ++ last ∷ []) c.extend_from-2.new.self whole c.self.invariant _)

pub returns-clause-ok : goal.returns-clause-ok
returns-clause-ok g c =
    let t = g.V.Values.dtype in
    let flag = flag_of c.self.inside.sorted in
    let chunks = c.deref-chunk-items.result.now in
    let earlier = c.self.inside.earlier.items in
    let last = c.self.inside.last in
    let at = c.loop-chunk.chunk-index in
    let all = take_all c.len-2.result last (omega (arith, c.len-2.ensures.value)) in
    let whole = c.in_ok-extend_from-2.ensures.ok ∙ ap (λ ss. c.loop-chunk.whole ++ ss) all ∙ ap (λ ss. ss ++ last) c.loop-chunk.invariant
    ∙ front_all chunks last at c.loop-chunk-test.false ∙ ap (λ es. all_slots es last) c.deref-chunk-items.ensures.value in
    rw c.new.ensures.items
    (ap (λ n. column_of t n flag (c.extend_from-2.new.self ∷ [])) c.in_ok-try_clone.ensures.ok
    ∙ view_whole t _ flag (earlier ++ last ∷ []) c.extend_from-2.new.self whole ∙ ap rechunked c.self.view_is)
