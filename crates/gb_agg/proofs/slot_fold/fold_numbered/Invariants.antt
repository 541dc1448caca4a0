use Rattle.std.proofs.Common.{◌≡◌, take}
use Rattle.gb_agg.specs.Numbered.{HoldEach}
use Rattle.gb_agg.proofs.slot_fold.fold_numbered.Given as goal

abbrev pub invariant-loop-place : goal.invariant-loop-place
invariant-loop-place g l = record {
  same : l.near ≡ l.column.slots;
  each : HoldEach (g.F.SlotFold.holds l.fold) l.column.slots (take l.place (g.M.Members.listed l.rows)) (take l.place l.numbers) l.groups l.states.items;
}
