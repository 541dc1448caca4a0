-- Runs of rows that hold one slot.
use Rattle.std.specs.Prelude.{◌≡◌, ℕ, zero, suc, ◌+◌, ◌-◌, ◌<◌, ◌≤◌, ◌^◌, Bool, true, not, List, [], ◌∷◌, All, Option, Some, None, filter, get_or, length, map}
use Rattle.std.specs.List.{range_with_len}
use Rattle.std.specs.List.Sorted.{IsNonDecreasing}
use Rattle.gb_defs.specs.Classes.{rows_below}
use Rattle.gb_defs.specs.Rows.{Rows, same_slot_at}
use Rattle.gb_defs.specs.Slot.{Slot, slot_at, slot_eq}

-- the slot of the row before, where there is one
abbrev pub slot_before : (ℕ → Slot) → ℕ → Option Slot
slot_before slot zero = None
slot_before slot (suc row) = Some (slot row)

-- whether a slot is another than the one before it, if there is one
abbrev pub differs_from : Option Slot → Slot → Bool
differs_from None slot = true
differs_from (Some before) slot = not (slot_eq before slot)

-- whether a run begins at a row
abbrev pub begins_run : (ℕ → Slot) → ℕ → Bool
begins_run slot row = differs_from (slot_before slot row) (slot row)

-- the first rows of runs among those of a range, its first row and how many they are
abbrev pub starts_in : Rows → ℕ × ℕ → List ℕ
starts_in rows range = filter (begins_run rows.slot) (range_with_len range.0 range.1)

-- the first row of each run
abbrev pub run_starts : Rows → List ℕ
run_starts rows = filter (begins_run rows.slot) (rows_below rows.count)

-- rows between two that hold one slot hold it too
pub record StandTogether (rows : Rows) : Type 0 where
  pub between : (i j k : ℕ) → i ≤ j → j ≤ k → k < rows.count → same_slot_at rows.slot i k ≡ true → same_slot_at rows.slot i j ≡ true

-- of slots, those between two that are the same are the same too
pub record AreTogether (slots : List Slot) : Type 0 where
  pub between : (i j k : ℕ) → i ≤ j → j ≤ k → k < length slots → slot_eq (slot_at slots i) (slot_at slots k) ≡ true → slot_eq (slot_at slots i) (slot_at slots j) ≡ true

-- so many rows from the first on have slots, and all have numbers
pub record HasRowsTo (slots : List Slot) (end : ℕ) : Type 0 where
  pub within : end ≤ length slots
  pub few : length slots < 2 ^ 32

-- first rows of runs, up to an end
pub record AreStarts (end : ℕ) (starts : List ℕ) : Type 0 where
  pub below : All (λ start. start < end) starts
  pub ascend : IsNonDecreasing starts

-- the k-th of the runs that begin at these rows, of which the last goes up to the end
abbrev pub run_at : List ℕ → ℕ → ℕ → List ℕ
run_at starts end k = get_or starts k 0 ∷ (get_or starts (k + 1) end - get_or starts k 0) ∷ []

-- all of them
abbrev pub runs_to : List ℕ → ℕ → List (List ℕ)
runs_to starts end = map (run_at starts end) (range_with_len 0 (length starts))
