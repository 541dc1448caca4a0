use Rattle.std.proofs.Common.{arith, ap, length, sym, subst, ◌+◌, ◌∙◌}
use Rattle.std.specs.List.{All, sum}
use Rattle.gb_defs.specs.Column.{ColumnValue}
use Rattle.gb_defs.specs.ColumnType.{Fits}
use Rattle.gb_cols.proofs.ChunkedLemmas.{all_slots, before_more, before_few, before_all, each_all, each_more, lengths_sum}
use Rattle.gb_cols.proofs.chunked.ChunkedArraySeriesTrait.len.Goals as goal

pub overflow_add-total : goal.overflow_add-total
overflow_add-total g c =
    let chunks = c.deref-chunk-items.result.now in
    let whole = ap (λ es. length (all_slots es c.self.inside.last)) c.deref-chunk-items.ensures.value in
    let more = before_more chunks c.chunk-item.result c.loop-chunk.chunk-index c.loop-chunk-test.true c.chunk-item.is in
    let few = before_few chunks c.self.inside.last (c.loop-chunk.chunk-index + 1) in
    omega (arith, c.self.invariant.small, whole, more, few, c.len-total.ensures.value, c.loop-chunk.invariant.counted)

pub loop-chunk-preserved : goal.loop-chunk-preserved
loop-chunk-preserved g c =
    let chunks = c.deref-chunk-items.result.now in
    let at = c.loop-chunk.chunk-index in
    let more = before_more chunks c.chunk-item.result at c.loop-chunk-test.true c.chunk-item.is in
    record {
      counted = omega (arith, more, c.len-total.ensures.value, c.loop-chunk.invariant.counted);
      fitting = each_more (Fits g.V.Values.dtype) chunks c.chunk-item.result at c.loop-chunk-test.true c.chunk-item.is c.loop-chunk.invariant.fitting c.len-total.ensures.fitting;
    }

pub overflow_add-result : goal.overflow_add-result
overflow_add-result g c =
    let whole = ap (λ es. length (all_slots es c.self.inside.last)) c.deref-chunk-items.ensures.value in
    let few = before_few c.deref-chunk-items.result.now c.self.inside.last c.loop-chunk.chunk-index in
    omega (arith, c.self.invariant.small, whole, few, c.len.ensures.value, c.loop-chunk.invariant.counted)

pub returns-clause-value : goal.returns-clause-value
returns-clause-value g c =
    let whole = ap (λ es. length (all_slots es c.self.inside.last)) c.deref-chunk-items.ensures.value in
    let all = before_all c.deref-chunk-items.result.now c.self.inside.last c.loop-chunk.chunk-index c.loop-chunk-test.false in
    let seen = ap (λ v. length v.slots) c.self.view_is in
    omega (arith, whole, all, seen, c.len.ensures.value, c.loop-chunk.invariant.counted)

pub returns-clause-small : goal.returns-clause-small
returns-clause-small g c =
    let whole = ap (λ es. length (all_slots es c.self.inside.last)) c.deref-chunk-items.ensures.value in
    let all = before_all c.deref-chunk-items.result.now c.self.inside.last c.loop-chunk.chunk-index c.loop-chunk-test.false in
    omega (arith, c.self.invariant.small, whole, all, c.len.ensures.value, c.loop-chunk.invariant.counted)

pub returns-clause-chunks : goal.returns-clause-chunks
returns-clause-chunks g c =
    ap (λ v. sum v.chunks) (sym c.self.view_is) ∙ lengths_sum c.self.inside.earlier.items c.self.inside.last ∙ ap (λ v. length v.slots) c.self.view_is

pub returns-clause-fitting : goal.returns-clause-fitting
returns-clause-fitting g c =
    let P = Fits g.V.Values.dtype in
    let all = each_all P c.deref-chunk-items.result.now c.self.inside.last c.loop-chunk.chunk-index c.loop-chunk-test.false c.loop-chunk.invariant.fitting c.len.ensures.fitting in
    subst (λ (v : ColumnValue). All (Fits v.dtype) v.slots) c.self.view_is (rw c.deref-chunk-items.ensures.value at all)
