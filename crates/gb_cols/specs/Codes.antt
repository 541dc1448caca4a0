-- Slots that are codes.
use Rattle.std.specs.Prelude.{◌≡◌, ℕ, ◌<◌, ◌+◌, pos, Bool, true, false, ◌||◌, List, length, slice_index_or}
use Rattle.std.specs.List.{list_any}
use Rattle.gb_defs.specs.Slot.{Slot, Nil, Num, Bytes, Items, slot_eq}

-- a slot is null, or a code below a number
abbrev pub IsCodeBelow : ℕ → Slot → Type 0
IsCodeBelow n Nil = Unit {0}
IsCodeBelow n (Num k) = (code : ℕ) × (k ≡ pos code) × (code < n)
IsCodeBelow n (Bytes bytes) = ⊥
IsCodeBelow n (Items parts) = ⊥

-- whether some slot holds a code
abbrev pub is_held : ℕ → List Slot → Bool
is_held code slots = list_any (slot_eq (Num (pos code))) slots

-- each number below another is held
abbrev pub HoldsAll : ℕ → List Slot → Type 0
HoldsAll n slots = (code : ℕ) → code < n → is_held code slots ≡ true

-- so many numbers from a first on are held
abbrev pub HoldsFrom : ℕ → ℕ → List Slot → Type 0
HoldsFrom first count slots = (place : ℕ) → place < count → is_held (first + place) slots ≡ true

-- the marks with those of the codes of some slots, from the place of a first code on
pub record HasMarked (first : ℕ) (codes : List Slot) (old new : List Bool) : Type 0 where
  pub long : length new ≡ length old
  pub marks : (place : ℕ) → place < length old → slice_index_or new place false ≡ (slice_index_or old place false || is_held (first + place) codes)
