use Rattle.std.proofs.Common.{◌≡◌, ◌<◌, length, take}
use Rattle.gb_defs.specs.Fold.{picked, valid}
use Rattle.gb_defs.specs.Slot.{slot_at}
use Rattle.gb_agg.specs.Extremes.{extreme_of}
use Rattle.gb_agg.proofs.extremes.extreme_row.Given as goal

abbrev pub invariant-loop-place : goal.invariant-loop-place
invariant-loop-place g l =
    let c = g.C.FoldOrder.column l.column in record {
      inside : l.best < length c.slots;
      best : slot_at c.slots l.best ≡ extreme_of l.greatest c.dtype (valid (picked c.slots (take l.place (g.R.GroupRows.rows l.rows))));
    }
