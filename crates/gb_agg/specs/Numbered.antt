-- What is known of the rows of each group, by the number of each row's group.
use Rattle.std.specs.Prelude.{◌≡◌, ℕ, ◌<◌, List, Option, None, Some, get_or, length}
use Rattle.gb_defs.specs.Fold.{picked, valid}
use Rattle.gb_defs.specs.Groups.{HasRowNumbers}
use Rattle.gb_defs.specs.Slot.{Slot}
use Rattle.gb_groups.specs.Numbers.{rows_of}

-- there is a state for each group, and it holds of the group's rows
pub record HoldRows {S : Type 0} (holds : List ℕ → S → Type 0) (rows numbers : List ℕ) (groups : ℕ) (states : List S) : Type 0 where
  pub as_many : length states ≡ groups
  pub each : (k : ℕ) (d : S) → k < groups → holds (rows_of rows numbers k) (get_or states k d)

-- what is known of the slots at some rows
abbrev pub holds_at : {S : Type 0} → (List Slot → S → Type 0) → List Slot → List ℕ → S → Type 0
holds_at holds slots rows state = holds (picked slots rows) state

-- it holds of the slots at the group's rows
abbrev pub HoldEach : {S : Type 0} → (List Slot → S → Type 0) → List Slot → List ℕ → List ℕ → ℕ → List S → Type 0
HoldEach holds slots rows numbers groups states = HoldRows (holds_at holds slots) rows numbers groups states

-- how many of some slots are valid, where so many have numbers; nothing where there are none
pub record CountsValid (slots : List Slot) (count : ℕ) : Type 0 where
  pub some : 0 < length slots
  pub counted : HasRowNumbers (length slots) → count ≡ length (valid slots)

abbrev pub HoldsCount : List Slot → Option ℕ → Type 0
HoldsCount slots None = length slots ≡ 0
HoldsCount slots (Some count) = CountsValid slots count
