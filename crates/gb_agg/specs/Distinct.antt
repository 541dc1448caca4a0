-- How many slots of a group differ, by numbers that differ where slots do.
use Rattle.std.specs.Prelude.{◌≡◌, ℕ, suc, ◌<◌, ◌==◌, Bool, List, [], ◌∷◌, All, get_or, length, map, set, if◌then◌else◌}
use Rattle.std.specs.List.{fold, list_any}
use Rattle.gb_defs.specs.Classes.{firsts, rows_below, same_slot}
use Rattle.gb_defs.specs.Fold.{number_slot}
use Rattle.gb_defs.specs.Slot.{Slot}

-- whether two numbers are the same
abbrev pub same_number : List ℕ → ℕ → ℕ → Bool
same_number numbers i j = get_or numbers i 0 == get_or numbers j 0

-- how many of the numbers differ
abbrev pub different : List ℕ → ℕ
different numbers = length (firsts (same_number numbers) (rows_below (length numbers)))

-- the numbers of some rows
abbrev pub numbers_at : List ℕ → List ℕ → List ℕ
numbers_at numbers rows = map (λ row. get_or numbers row 0) rows

-- rows have the same number where they hold one slot
abbrev pub TellSlots : List ℕ → List Slot → Type 0
TellSlots numbers slots = (i j : ℕ) → i < length slots → j < length slots → same_slot slots i j ≡ same_number numbers i j

-- ---- numbers by lists of rows

-- whether a row is listed
abbrev pub is_listed : ℕ → List ℕ → Bool
is_listed row rows = list_any (λ other. row == other) rows

-- the place, counted from a number on, of the last list that has the row
abbrev pub number_from : ℕ → List (List ℕ) → ℕ → ℕ → ℕ
number_from place [] row none = none
number_from place (rows ∷ lists) row none = number_from (suc place) lists row (if is_listed row rows then place else none)

-- the numbers with one number at these rows
abbrev pub numbered : ℕ → List ℕ → List ℕ → List ℕ
numbered number rows numbers = fold (λ ns row. set ns row number) numbers rows

-- so many rows have the place of the last list that has them
pub record AreNumbered (count : ℕ) (lists : List (List ℕ)) (numbers : List ℕ) : Type 0 where
  pub as_many : length numbers ≡ count
  pub placed : (row : ℕ) → row < count → get_or numbers row 0 ≡ number_from 0 lists row 0

-- the numbers of the classes of some slots, of which there are so many
pub record AreClasses (slots : List Slot) (count : ℕ) (numbers : List ℕ) : Type 0 where
  pub as_many : length numbers ≡ length slots
  pub known : All (λ number. number < count) numbers
  pub tell : TellSlots numbers slots

-- how many numbers of some rows differ, as a slot
abbrev pub different_fold : List ℕ → List ℕ → Slot
different_fold numbers rows = number_slot (different (numbers_at numbers rows))
