use Rattle.std.proofs.Common.{◌∙◌, ◌++◌, ◌∷◌, [], List, ap, arith, subst, sym, take}
use Rattle.gb_defs.proofs.FoldLemmas.{picked_more}
use Rattle.gb_defs.specs.Fold.{picked}
use Rattle.gb_defs.specs.Slot.{Slot, slot_at}
use Rattle.gb_agg.proofs.slot_fold.fold_rows.Goals as goal

pub loop-place-preserved : goal.loop-place-preserved
loop-place-preserved g c =
    let slots = c.args.column.now.slots in
    let rows = g.R.GroupRows.rows c.args.rows.now in
    let before = picked slots (take c.loop-place.place rows) in
    let same = c.loop-place.invariant.same in
    let slot = c.locate-at.ensures.slot ∙ ap (λ ss. slot_at ss c.row_at.result) same ∙ ap (slot_at slots) c.row_at.ensures in
    let more = ap (λ (s : Slot). before ++ s ∷ []) slot ∙ sym (picked_more slots rows c.loop-place.place (omega arith)) in
    record {
      same = c.locate-at.ensures.same ∙ same;
      holds = subst (λ (ss : List Slot). g.F.SlotFold.holds c.args.fold.now ss c.with_slot-state.result) more (c.with_slot-state.ensures before c.loop-place.invariant.holds);
    }
