use Rattle.std.proofs.Common.{◌+◌, ◌++◌, ◌∙◌, ap, sym}
use Rattle.gb_values.specs.SlotOrder.{last_slot}
use Rattle.gb_cols.proofs.ChunkedLemmas.{all_slots, from_chunk, front_all, front_more, front_slots, slots_around}
use Rattle.gb_values.proofs.SlotOrderLemmas.{later_chunk, order_seen, walk_chunk, walk_shut}
use Rattle.gb_cols.proofs.chunked.ChunkedArraySeriesTrait.order.Goals as goal

pub returns-then-not-is_open : goal.returns-then-not-is_open
returns-then-not-is_open g c =
    let t = g.V.Values.dtype in
    let column = c.args.self.now in
    let chunks = c.deref-chunk-items.result.now in
    let last = c.self.inside.last in
    let at = c.loop-chunk.chunk-index in
    let before = last_slot c.loop-chunk.before in
    let rest = c.chunk-item.result ++ from_chunk chunks last (at + 1) in
    let seen = ap (λ es. all_slots es last) c.deref-chunk-items.ensures.value ∙ ap (λ v. v.slots) c.self.view_is in
    let whole = sym seen ∙ slots_around chunks last c.chunk-item.result at c.loop-chunk-test.true c.chunk-item.is in
    let shut = walk_shut t c.loop-chunk.walk before rest (sym c.is_open.ensures ∙ c.if-not-is_open.true) in
    let over = walk_chunk t c.loop-chunk.walk c.loop-chunk.walk before (front_slots chunks at) rest column.slots whole c.loop-chunk.invariant.walk c.loop-chunk.invariant.last shut in
    order_seen t column c.found.result c.loop-chunk.walk (ap (λ v. v.dtype) c.self.view_is) g.met.V.Values.sortable c.len.ensures.fitting over c.found.ensures.ascending c.found.ensures.descending

pub loop-chunk-preserved : goal.loop-chunk-preserved
loop-chunk-preserved g c =
    let chunks = c.deref-chunk-items.result.now in
    let chunk = c.chunk-item.result in
    let at = c.loop-chunk.chunk-index in
    let front = front_slots chunks at in
    let last = last_slot c.loop-chunk.before in
    let grown = front_more chunks chunk at c.loop-chunk-test.true c.chunk-item.is in
    record {
      walk = walk_chunk g.V.Values.dtype c.loop-chunk.walk c.over-walk.result last front chunk (front_slots chunks (at + 1)) grown c.loop-chunk.invariant.walk c.loop-chunk.invariant.last c.over-walk.ensures;
      last = later_chunk last (last_slot c.later_chunk-before.result) front chunk (front_slots chunks (at + 1)) grown c.loop-chunk.invariant.last c.later_chunk-before.ensures.slot;
      some = c.later_chunk-before.ensures.some;
    }

pub returns : goal.returns
returns g c =
    let t = g.V.Values.dtype in
    let column = c.args.self.now in
    let chunks = c.deref-chunk-items.result.now in
    let last = c.self.inside.last in
    let at = c.loop-chunk.chunk-index in
    let seen = ap (λ es. all_slots es last) c.deref-chunk-items.ensures.value ∙ ap (λ v. v.slots) c.self.view_is in
    let whole = sym (front_all chunks last at c.loop-chunk-test.false ∙ seen) in
    let over = walk_chunk t c.loop-chunk.walk c.over.result (last_slot c.loop-chunk.before) (front_slots chunks at) last column.slots whole c.loop-chunk.invariant.walk c.loop-chunk.invariant.last c.over.ensures in
    order_seen t column c.found-2.result c.over.result (ap (λ v. v.dtype) c.self.view_is) g.met.V.Values.sortable c.len.ensures.fitting over c.found-2.ensures.ascending c.found-2.ensures.descending
