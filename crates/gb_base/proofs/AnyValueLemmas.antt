-- The slot of a value that holds others.
use Rattle.std.proofs.Common.{◌≡◌, map, refl, ap, rules}
use Rattle.gb_defs.specs.Slot as slot
use Rattle.gb_base.specs.AnyValue.{slot_of, slots_in, row_slots}
use Rattle.gb_base.specs.declared.any_value.AnyList.{AnyList}
use Rattle.gb_base.specs.declared.any_value.AnyValue.{Items, Row_of-AnyValue, end_of-AnyValue, more_of-AnyValue, items-the_row-AnyValue, the_lemmas}

row_slots_listed : (count : _) (row : Row_of-AnyValue count) → row_slots row ≡ slot.items_of (map slot_of (items-the_row-AnyValue count row))
row_slots_listed _ end_of-AnyValue = refl
row_slots_listed _ (more_of-AnyValue value row) = ap (slot.And (slot_of value)) (row_slots_listed _ row)

pub items_slot : (list : AnyList) → slot_of (Items list) ≡ slot.Items (slot.items_of (slots_in list))
items_slot list = search (rules, the_lemmas, row_slots_listed)
