use Rattle.std.proofs.Common.{◌∙◌, List, subst, sym, ap}
use Rattle.std.specs.List.{All}
use Rattle.gb_defs.specs.Slot.{Slot, Items, items_of}
use Rattle.gb_series.specs.Series.{value_of}
use Rattle.gb_series.specs.Arrays.{HasWidth}
use Rattle.gb_series.proofs.ArrayLemmas.{array_width, back, array_pushed}
use Rattle.gb_series.proofs.nested.array.ArrayChunked.put_slots.Goals as goal

pub invariant_of-self-2 : goal.invariant_of-self-2
invariant_of-self-2 c =
    let own = c.self.inside in
    let slots = (value_of c.args.slots.now).slots in
    let wide = back slots ∙ array_width _ _ _ _ (c.requires.typed ∙ ap (λ v. v.dtype) (sym c.self.view_is)) in
    array_pushed own.width own.lists (Items (items_of slots)) _ c.self.invariant wide c.in_ok-put_slots.ensures.ok
