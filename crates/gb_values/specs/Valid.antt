-- Slots that are null, and the first that is not.
use Rattle.std.specs.Prelude.{◌≡◌, ℕ, ◌<◌, List, length, true, false}
use Rattle.gb_defs.specs.Slot.{Slot, is_nil, slot_at}

abbrev pub IsNull : Slot → Type 0
IsNull slot = is_nil slot ≡ true

-- a place holds a slot, and every earlier place a null
pub record IsFirstValid (slots : List Slot) (place : ℕ) : Type 0 where
  pub inside : place < length slots
  pub valid : is_nil (slot_at slots place) ≡ false
  pub earlier : (k : ℕ) → k < place → is_nil (slot_at slots k) ≡ true
