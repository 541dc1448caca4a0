-- Rows are numbers. Which of them agree is a test on two rows, and the rows in question are a list
-- that ascends, mostly `rows_below n`.
use Rattle.std.specs.Prelude.{ℕ, Bool, not, ◌&&◌, ◌==◌, nat_lt, List, [], ◌∷◌, map, filter, length, replicate, if◌then◌else◌, max}
use Rattle.std.specs.List.{list_any, list_all, range_with_len}
use Rattle.gb_defs.specs.Slot.{Slot, slot_eq, slot_at}

-- the rows below n, ascending
abbrev pub rows_below : ℕ → List ℕ
rows_below n = range_with_len 0 n

module _ (agree : ℕ → ℕ → Bool) where
  -- the rows that agree with i, in their order
  unfoldable pub class : List ℕ → ℕ → List ℕ
  class rows i = filter (agree i) rows

  -- whether no earlier row agrees with i
  unfoldable pub is_first : List ℕ → ℕ → Bool
  is_first rows i = not (list_any (λ j. nat_lt j i && agree i j) rows)

  -- the rows with which no earlier row agrees
  unfoldable pub firsts : List ℕ → List ℕ
  firsts rows = filter (is_first rows) rows

  -- each first row, with the rows of its class
  unfoldable pub groups : List ℕ → List (ℕ × List ℕ)
  groups rows = map (λ i. (i, class rows i)) (firsts rows)

-- rows with one slot in a list of slots
abbrev pub same_slot : List Slot → ℕ → ℕ → Bool
same_slot slots i j = slot_eq (slot_at slots i) (slot_at slots j)

-- ---- keys

abbrev pub longest : List (List Slot) → ℕ
longest [] = 0
longest (key ∷ keys) = max (length key) (longest keys)

-- a key of another length than the height stands for its first slot, so often
abbrev pub stretched : ℕ → List Slot → List Slot
stretched height key = if length key == height then key else replicate height (slot_at key 0)

-- rows in which every key has one slot
abbrev pub agree_by : List (List Slot) → ℕ → ℕ → Bool
agree_by keys i j = list_all (λ key. same_slot key i j) keys
