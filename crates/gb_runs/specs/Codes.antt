-- Rows by the codes that they hold.
use Rattle.std.specs.Prelude.{ℕ, ◌+◌, pos, cond, List, [], ◌∷◌, All, length, map}
use Rattle.std.specs.List.{list_any}
use Rattle.gb_defs.specs.Rows.{Rows}
use Rattle.gb_defs.specs.Slot.{Slot, Num, is_nil, slot_at}
use Rattle.gb_cols.specs.Codes.{HoldsAll, IsCodeBelow}

-- each slot holds one of so many codes, or none, and each code is held
pub record AreCodes (count : ℕ) (slots : List Slot) : Type 0 where
  pub codes : All (IsCodeBelow count) slots
  pub used : HoldsAll count slots

-- the number of a slot's group: its code, and behind all codes where it holds none
abbrev pub number_of : ℕ → Slot → ℕ
number_of count (Num (pos code)) = code
number_of count _ = count

abbrev pub numbers_of : ℕ → List Slot → List ℕ
numbers_of count slots = map (number_of count) slots

-- how many groups there are: one for each code, and one for the rows that hold none
abbrev pub group_count : ℕ → List Slot → ℕ
group_count count slots = count + cond (list_any is_nil slots) 1 0

-- rows of which only the slots are told
abbrev pub rows_in : List Slot → Rows
rows_in slots = record { count = length slots; slot = slot_at slots; hash = λ row. 0 }

-- the first row of a list
abbrev pub head_or_zero : List ℕ → ℕ
head_or_zero [] = 0
head_or_zero (row ∷ rows) = row

-- of each list
abbrev pub heads_of : List (List ℕ) → List ℕ
heads_of lists = map head_or_zero lists
