use Rattle.std.proofs.Common.{◌∙◌, ◌++◌, ◌∷◌, [], List, ap, arith, get_or, refl, subst, sym}
use Rattle.std.proofs.lemmas.List.{get_or_default, map-append}
use Rattle.gb_defs.specs.Fold.{picked}
use Rattle.gb_defs.specs.Slot.{Slot, slot_at}
use Rattle.gb_agg.specs.Numbered.{holds_at}
use Rattle.gb_agg.proofs.NumberedLemmas.{each_more, each_none}
use Rattle.gb_agg.proofs.slot_fold.fold_numbered.Goals as goal

pub loop-place-init : goal.loop-place-init
loop-place-init g c = record {
  same = c.new-near.ensures;
  each = each_none (holds_at (g.F.SlotFold.holds c.args.fold.now) c.args.column.now.slots) (g.M.Members.listed c.args.rows.now) c.args.numbers.now c.args.groups
      c.start.result c.in_ok-states.states.items c.in_ok-states.ensures c.start.ensures;
}

pub loop-place-preserved : goal.loop-place-preserved
loop-place-preserved g c =
    let holds = g.F.SlotFold.holds c.args.fold.now in
    let slots = c.args.column.now.slots in
    let rows = g.M.Members.listed c.args.rows.now in
    let numbers = c.args.numbers.now in
    let n = c.loop-place.place in
    let number = get_or numbers n 0 in
    let row = c.row_at.result in
    let new = c.with_slot.result in
    let same = c.loop-place.invariant.same in
    let inside = c.requires.known n 0 c.loop-place-test.true in
    let here = get_or_default c.loop-place.states.items number new c.index-state.result.now (omega (arith, inside, c.loop-place.invariant.each.as_many)) in
    let slot = c.locate-at.ensures.slot ∙ ap (λ (ss : List Slot). slot_at ss row) same in
    record {
      same = c.locate-at.ensures.same ∙ same;
      each = each_more (holds_at holds slots) rows numbers c.args.groups c.requires.each n number row c.loop-place-test.true refl (sym c.row_at.ensures)
          c.loop-place.states.items new inside
          (λ before known. subst (λ (ss : List Slot). holds ss new) (ap (λ (s : Slot). picked slots before ++ s ∷ []) slot ∙ sym (map-append (slot_at slots) before (row ∷ [])))
          (c.with_slot.ensures (picked slots before) (subst (holds (picked slots before)) (here ∙ sym c.index-state.ensures) known)))
          c.loop-place.invariant.each;
    }
