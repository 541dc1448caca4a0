use Rattle.std.proofs.Common.{◌≡◌, take}
use Rattle.gb_defs.specs.Fold.{picked}
use Rattle.gb_agg.proofs.slot_fold.fold_rows.Given as goal

abbrev pub invariant-loop-place : goal.invariant-loop-place
invariant-loop-place g l = record {
  same : l.near ≡ l.column.slots;
  holds : g.F.SlotFold.holds l.fold (picked l.column.slots (take l.place (g.R.GroupRows.rows l.rows))) l.state;
}
