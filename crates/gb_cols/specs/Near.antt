-- A chunk of a column, and where it stands.
use Rattle.std.specs.Prelude.{◌≡◌, ℕ, ◌+◌, ◌<◌, ◌≤◌, List, [], ◌∷◌, ◌++◌, length, take}
use Rattle.std.specs.List.{flat_map}
use Rattle.gb_defs.specs.Slot.{Slot, slot_at}

-- the slots of chunks one after another
abbrev pub slots_in_chunks : List (List Slot) → List Slot → List Slot
slots_in_chunks earlier last = flat_map (λ chunk. chunk) (earlier ++ last ∷ [])

-- the slots of the chunk are those from a row on
abbrev pub StandsAt : List Slot → ℕ → List Slot → Type 0
StandsAt slots start chunk = (k : ℕ) → k < length chunk → slot_at chunk k ≡ slot_at slots (start + k)

-- the earlier chunks before a place end where this row begins
pub record IsStart (earlier : List (List Slot)) (place start : ℕ) : Type 0 where
  pub inside : place ≤ length earlier
  pub is : start ≡ length (flat_map (λ chunk. chunk) (take place earlier))

-- the chunk stands at a place among those of a column, from a row on
pub record IsNear (earlier : List (List Slot)) (last : List Slot) (place start : ℕ) (chunk : List Slot) : Type 0 where
  pub stands : StandsAt (slots_in_chunks earlier last) start chunk
  pub begins : IsStart earlier place start
