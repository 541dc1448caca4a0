-- Keys and values of the slow program, as the definitions see them.
use Rattle.std.specs.Prelude.{ℕ, ℤ, ◌==◌, Bool, List, map, Option, Some, None, slice_index}
use Rattle.gb_defs.specs.Slot.{Slot, Nil, Num}

-- rows with one key
abbrev pub same_key : List ℕ → ℕ → ℕ → Bool
same_key keys i j = slice_index keys i == slice_index keys j

abbrev pub value_slot : Option ℤ → Slot
value_slot None = Nil
value_slot (Some n) = Num n

abbrev pub value_slots : List (Option ℤ) → List Slot
value_slots values = map value_slot values
