use Rattle.std.proofs.Common.{◌<◌, ◌∷◌, [], length, arith, subst}
use Rattle.gb_defs.specs.ColumnType.{Flat}
use Rattle.gb_defs.specs.RowBytes.{slot_bytes}
use Rattle.gb_defs.specs.Slot.{Slot}
use Rattle.gb_rows.proofs.RangeLemmas.{taken_more}
use Rattle.gb_rows.proofs.row_cells.NumberValuesCellValues.put_chunk.Goals as goal

pub loop-i-preserved : goal.loop-i-preserved
loop-i-preserved g c =
    let t = Flat g.T.Native.Native.flat in
    let slots = c.args.chunk.now in
    let loop = c.loop-i in
    let lt : loop.i < length slots = omega (arith, c.loop-i-test.true, loop.auto.i-end, c.min-i-end.ensures, c.len.ensures.value) in
    let here = subst (λ (s : Slot). g.S.CellSink.HasTaken (slot_bytes t s ∷ []) loop.sink c.put_number.new.sink) c.get.ensures c.in_ok-put_number.ensures in
    record {
      taken = taken_more g.S.CellSink.HasTaken g.met.S.CellSink.took_more (slot_bytes t) slots c.args.start loop.i c.args.sink.now loop.sink c.put_number.new.sink loop.invariant.low lt loop.invariant.taken here;
      low = omega (arith, loop.invariant.low);
      high = omega (arith, lt, c.loop-i-test.true, c.min-i-end.ensures, c.len.ensures.value);
    }
