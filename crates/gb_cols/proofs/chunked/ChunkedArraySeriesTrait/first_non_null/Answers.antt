use Rattle.std.proofs.Common.{◌+◌, ◌++◌, [], length, Some, ◌∙◌, ap, arith, sym}
use Rattle.std.specs.List.{position}
use Rattle.std.proofs.lemmas.List.{append-nil}
use Rattle.gb_defs.specs.Column.{is_valid}
use Rattle.gb_values.specs.Valid.{IsNull}
use Rattle.gb_cols.proofs.ChunkedLemmas.{all_slots, before_few, before_more, each_all, each_more, from_chunk, front_all, front_slots, slots_around}
use Rattle.gb_cols.proofs.ValidLemmas.{first_behind, first_none}
use Rattle.gb_cols.proofs.chunked.ChunkedArraySeriesTrait.first_non_null.Goals as goal

pub overflow_add-result : goal.overflow_add-result
overflow_add-result g c =
    let chunks = c.deref-chunk-items.result.now in
    let whole = ap (λ es. length (all_slots es c.self.inside.last)) c.deref-chunk-items.ensures.value in
    let more = before_more chunks c.chunk-item.result c.loop-chunk.chunk-index c.loop-chunk-test.true c.chunk-item.is in
    let few = before_few chunks c.self.inside.last (c.loop-chunk.chunk-index + 1) in
    omega (arith, c.self.invariant.small, whole, more, few, c.in-Some.ensures.inside, c.loop-chunk.invariant.counted)

pub returns-in-Some : goal.returns-in-Some
returns-in-Some g c =
    let chunks = c.deref-chunk-items.result.now in
    let chunk = c.chunk-item.result in
    let last = c.self.inside.last in
    let at = c.loop-chunk.chunk-index in
    let front = front_slots chunks at in
    let seen = ap (λ es. all_slots es last) c.deref-chunk-items.ensures.value ∙ ap (λ v. v.slots) c.self.view_is in
    let around = slots_around chunks last chunk at c.loop-chunk-test.true c.chunk-item.is in
    let first = first_behind front chunk (from_chunk chunks last (at + 1)) c.in-Some.place c.loop-chunk.invariant.nulls c.in-Some.ensures in
    ap (λ n. Some (n + c.in-Some.place)) c.loop-chunk.invariant.counted ∙ sym first ∙ ap (position is_valid) (sym around ∙ seen)

pub overflow_add-before : goal.overflow_add-before
overflow_add-before g c =
    let chunks = c.deref-chunk-items.result.now in
    let whole = ap (λ es. length (all_slots es c.self.inside.last)) c.deref-chunk-items.ensures.value in
    let more = before_more chunks c.chunk-item.result c.loop-chunk.chunk-index c.loop-chunk-test.true c.chunk-item.is in
    let few = before_few chunks c.self.inside.last (c.loop-chunk.chunk-index + 1) in
    omega (arith, c.self.invariant.small, whole, more, few, c.len-before.ensures.value, c.loop-chunk.invariant.counted)

pub loop-chunk-preserved : goal.loop-chunk-preserved
loop-chunk-preserved g c =
    let chunks = c.deref-chunk-items.result.now in
    let at = c.loop-chunk.chunk-index in
    let more = before_more chunks c.chunk-item.result at c.loop-chunk-test.true c.chunk-item.is in
    record {
      counted = omega (arith, more, c.len-before.ensures.value, c.loop-chunk.invariant.counted);
      nulls = each_more IsNull chunks c.chunk-item.result at c.loop-chunk-test.true c.chunk-item.is c.loop-chunk.invariant.nulls c.in-None.ensures;
    }

pub overflow_add-result-in-Some-first_non_null : goal.overflow_add-result-in-Some-first_non_null
overflow_add-result-in-Some-first_non_null g c =
    let whole = ap (λ es. length (all_slots es c.self.inside.last)) c.deref-chunk-items.ensures.value in
    let few = before_few c.deref-chunk-items.result.now c.self.inside.last c.loop-chunk.chunk-index in
    omega (arith, c.self.invariant.small, whole, few, c.in-Some-first_non_null.ensures.inside, c.loop-chunk.invariant.counted)

pub returns-in-Some-first_non_null : goal.returns-in-Some-first_non_null
returns-in-Some-first_non_null g c =
    let chunks = c.deref-chunk-items.result.now in
    let last = c.self.inside.last in
    let at = c.loop-chunk.chunk-index in
    let front = front_slots chunks at in
    let seen = ap (λ es. all_slots es last) c.deref-chunk-items.ensures.value ∙ ap (λ v. v.slots) c.self.view_is in
    let around = ap (λ ss. front ++ ss) (append-nil last) ∙ front_all chunks last at c.loop-chunk-test.false in
    let first = first_behind front last [] c.in-Some-first_non_null.place c.loop-chunk.invariant.nulls c.in-Some-first_non_null.ensures in
    ap (λ n. Some (n + c.in-Some-first_non_null.place)) c.loop-chunk.invariant.counted ∙ sym first ∙ ap (position is_valid) (around ∙ seen)

pub returns-in-None-first_non_null : goal.returns-in-None-first_non_null
returns-in-None-first_non_null g c =
    let chunks = c.deref-chunk-items.result.now in
    let last = c.self.inside.last in
    let seen = ap (λ es. all_slots es last) c.deref-chunk-items.ensures.value ∙ ap (λ v. v.slots) c.self.view_is in
    let all = each_all IsNull chunks last c.loop-chunk.chunk-index c.loop-chunk-test.false c.loop-chunk.invariant.nulls c.in-None-first_non_null.ensures in
    sym (first_none (all_slots chunks last) all) ∙ ap (position is_valid) seen
