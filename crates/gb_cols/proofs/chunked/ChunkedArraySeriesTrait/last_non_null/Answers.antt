use Rattle.std.proofs.Common.{◌+◌, length, ◌∙◌, ap, arith, sym}
use Rattle.gb_cols.proofs.ChunkedLemmas.{all_slots, before_few, before_more, front_all, front_more, front_slots}
use Rattle.gb_cols.proofs.ValidLemmas.{last_fits, last_more}
use Rattle.gb_cols.proofs.chunked.ChunkedArraySeriesTrait.last_non_null.Goals as goal

pub later-found-requires : goal.later-found-requires
later-found-requires g c =
    let chunks = c.deref-chunk-items.result.now in
    let whole = ap (λ es. length (all_slots es c.self.inside.last)) c.deref-chunk-items.ensures.value in
    let more = before_more chunks c.chunk-item.result c.loop-chunk.chunk-index c.loop-chunk-test.true c.chunk-item.is in
    let few = before_few chunks c.self.inside.last (c.loop-chunk.chunk-index + 1) in
    last_fits c.chunk-item.result c.last_non_null.result c.loop-chunk.before 18446744073709551616 c.last_non_null.ensures (omega (arith, c.self.invariant.small, whole, more, few, c.loop-chunk.invariant.counted))

pub overflow_add-before : goal.overflow_add-before
overflow_add-before g c =
    let chunks = c.deref-chunk-items.result.now in
    let whole = ap (λ es. length (all_slots es c.self.inside.last)) c.deref-chunk-items.ensures.value in
    let more = before_more chunks c.chunk-item.result c.loop-chunk.chunk-index c.loop-chunk-test.true c.chunk-item.is in
    let few = before_few chunks c.self.inside.last (c.loop-chunk.chunk-index + 1) in
    omega (arith, c.self.invariant.small, whole, more, few, c.len-before.ensures.value, c.loop-chunk.invariant.counted)

pub loop-chunk-preserved : goal.loop-chunk-preserved
loop-chunk-preserved g c =
    let chunks = c.deref-chunk-items.result.now in
    let chunk = c.chunk-item.result in
    let at = c.loop-chunk.chunk-index in
    let more = before_more chunks chunk at c.loop-chunk-test.true c.chunk-item.is in
    let grown = front_more chunks chunk at c.loop-chunk-test.true c.chunk-item.is in
    record {
      counted = omega (arith, more, c.len-before.ensures.value, c.loop-chunk.invariant.counted);
      last = last_more (front_slots chunks at) chunk _ _ _ _ _ c.loop-chunk.invariant.counted grown c.later-found.ensures c.loop-chunk.invariant.last c.last_non_null.ensures;
    }

pub later-requires : goal.later-requires
later-requires g c =
    let whole = ap (λ es. length (all_slots es c.self.inside.last)) c.deref-chunk-items.ensures.value in
    let few = before_few c.deref-chunk-items.result.now c.self.inside.last c.loop-chunk.chunk-index in
    last_fits c.self.inside.last c.last_non_null-2.result c.loop-chunk.before 18446744073709551616 c.last_non_null-2.ensures (omega (arith, c.self.invariant.small, whole, few, c.loop-chunk.invariant.counted))

pub returns : goal.returns
returns g c =
    let chunks = c.deref-chunk-items.result.now in
    let last = c.self.inside.last in
    let at = c.loop-chunk.chunk-index in
    let seen = ap (λ es. all_slots es last) c.deref-chunk-items.ensures.value ∙ ap (λ v. v.slots) c.self.view_is in
    let whole = sym (front_all chunks last at c.loop-chunk-test.false ∙ seen) in
    last_more (front_slots chunks at) last _ _ _ _ _ c.loop-chunk.invariant.counted whole c.later.ensures c.loop-chunk.invariant.last c.last_non_null-2.ensures
