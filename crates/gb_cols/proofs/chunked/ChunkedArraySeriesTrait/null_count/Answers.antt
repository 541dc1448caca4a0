use Rattle.std.proofs.Common.{arith, ap, length, ◌+◌}
use Rattle.std.specs.List.{count_by}
use Rattle.gb_defs.specs.Slot.{is_nil}
use Rattle.gb_cols.proofs.ChunkedLemmas.{all_slots, nulls_all, nulls_few, nulls_more}
use Rattle.gb_cols.proofs.chunked.ChunkedArraySeriesTrait.null_count.Goals as goal

pub overflow_add-total : goal.overflow_add-total
overflow_add-total g c =
    let chunks = c.deref-chunk-items.result.now in
    let whole = ap (λ es. length (all_slots es c.self.inside.last)) c.deref-chunk-items.ensures.value in
    let more = nulls_more chunks c.chunk-item.result c.loop-chunk.chunk-index c.loop-chunk-test.true c.chunk-item.is in
    let few = nulls_few chunks c.self.inside.last (c.loop-chunk.chunk-index + 1) in
    omega (arith, c.self.invariant.small, whole, more, few, c.null_count-total.ensures, c.loop-chunk.invariant)

pub loop-chunk-preserved : goal.loop-chunk-preserved
loop-chunk-preserved g c =
    let more = nulls_more c.deref-chunk-items.result.now c.chunk-item.result c.loop-chunk.chunk-index c.loop-chunk-test.true c.chunk-item.is in
    omega (arith, more, c.null_count-total.ensures, c.loop-chunk.invariant)

pub overflow_add-result : goal.overflow_add-result
overflow_add-result g c =
    let whole = ap (λ es. length (all_slots es c.self.inside.last)) c.deref-chunk-items.ensures.value in
    omega (arith, c.self.invariant.small, whole, nulls_few c.deref-chunk-items.result.now c.self.inside.last c.loop-chunk.chunk-index, c.null_count.ensures, c.loop-chunk.invariant)

pub returns : goal.returns
returns g c =
    let whole = ap (λ es. count_by is_nil (all_slots es c.self.inside.last)) c.deref-chunk-items.ensures.value in
    let all = nulls_all c.deref-chunk-items.result.now c.self.inside.last c.loop-chunk.chunk-index c.loop-chunk-test.false in
    let seen = ap (λ v. count_by is_nil v.slots) c.self.view_is in
    omega (arith, whole, all, seen, c.null_count.ensures, c.loop-chunk.invariant)
