use Rattle.std.proofs.Common.{◌<◌, ◌≤◌, ◌∷◌, [], List, ℕ, length, map, max, min, ap, arith, subst, ◌∙◌, refl}
use Rattle.gb_defs.specs.RowBytes.{slot_bytes}
use Rattle.gb_defs.specs.Slot.{Slot}
use Rattle.gb_rows.proofs.RangeLemmas.{between_done, column_cells, null_at, taken_more}
use Rattle.gb_rows.proofs.row_cells.NullChunkedRowCells.put_cells.Goals as goal

pub loop-preserved : goal.loop-preserved
loop-preserved g c =
    let t = c.args.self.now.dtype in
    let slots = c.args.self.now.slots in
    let loop = c.loop in
    let lt : loop.counter < length slots = omega (arith, c.loop-test.true, loop.auto.counter-end, c.min-end.ensures, c.len.ensures.value) in
    let null = null_at slots loop.counter c.allocator.ensures.nulls lt in
    let here = subst (λ (s : Slot). g.S.CellSink.HasTaken (slot_bytes t s ∷ []) loop.sink c.put.new.self) null c.in_ok-put.ensures in
    record {
      taken = taken_more g.S.CellSink.HasTaken g.met.S.CellSink.took_more (slot_bytes t) slots c.args.start loop.counter c.args.sink.now loop.sink c.put.new.self loop.invariant.low lt loop.invariant.taken here;
      low = omega (arith, loop.invariant.low);
      high = omega (arith, lt, c.loop-test.true, c.min-end.ensures, c.len.ensures.value);
    }

pub returns : goal.returns
returns g c =
    let t = c.args.self.now.dtype in
    let slots = c.args.self.now.slots in
    let loop = c.loop in
    let done : min c.args.end (length slots) ≤ loop.counter = omega (arith, c.loop-test.false, loop.auto.counter-end, loop.invariant.low, c.min-end.ensures, c.len.ensures.value) in
    let high : loop.counter ≤ max c.args.start (min c.args.end (length slots)) = omega (arith, loop.invariant.high, c.min-end.ensures, c.len.ensures.value) in
    let all = ap (map (slot_bytes t)) (between_done c.args.start c.args.end loop.counter slots loop.invariant.low high done) ∙ column_cells c.args.self.now t c.args.start c.args.end refl in
    subst (λ (cells : List (List ℕ)). g.S.CellSink.HasTaken cells c.args.sink.now loop.sink) all loop.invariant.taken
