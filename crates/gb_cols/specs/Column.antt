-- The column that chunks make, and what a push and an append do to it.
use Rattle.std.specs.Prelude.{◌≡◌, ℕ, ◌+◌, ◌<◌, ◌^◌, Bool, List, [], ◌∷◌, ◌++◌, map, length, sum, take, false, Option, None, Some, option_map}
use Rattle.std.specs.List.{flat_map}
use Rattle.gb_defs.specs.Cell.{cell_slot}
use Rattle.gb_defs.specs.CellText.{cell_text}
use Rattle.gb_defs.specs.Slot.{Slot, slot_at}
use Rattle.gb_defs.specs.ColumnType.{ColumnType, Flat, Categorical, Enum}
use Rattle.gb_numbers.specs.Taken.{if_taken}
use Rattle.gb_defs.specs.Column.{ColumnValue, IsFlagTrue, NotSorted, SortedFlag}

-- the column of these chunks
abbrev pub column_of : ColumnType → List ℕ → SortedFlag → List (List Slot) → ColumnValue
column_of dtype name flag chunks =
    record { name = name; dtype = dtype; slots = flat_map (λ chunk. chunk) chunks; chunks = map length chunks; sorted = flag; all_used = false }

-- the flag is true, the slots are fewer than 2^63, and the chunks fewer than 2^64
pub record IsSmallColumn (c : ColumnValue) : Type 0 where
  pub flag_true : IsFlagTrue c.sorted c.dtype c.slots
  pub small : length c.slots < 2 ^ 63
  pub few : length c.chunks < 2 ^ 64

-- a place behind so many, or what was found among those where there is none
abbrev pub later_place : Option ℕ → ℕ → Option ℕ → Option ℕ
later_place found before None = found
later_place found before (Some place) = Some (before + place)

-- the lengths of chunks of which the last has one slot more
abbrev pub longer_last : List ℕ → List ℕ
longer_last [] = []
longer_last (n ∷ []) = (n + 1) ∷ []
longer_last (n ∷ m ∷ ns) = n ∷ longer_last (m ∷ ns)

-- the column with one slot more at the end of its last chunk, and no flag
abbrev pub pushed : ColumnValue → Slot → ColumnValue
pushed c slot = record { name = c.name; dtype = c.dtype; slots = c.slots ++ slot ∷ []; chunks = longer_last c.chunks; sorted = NotSorted; all_used = false }

-- the column with another's slots and chunks behind its own, and no flag
abbrev pub appended : ColumnValue → ColumnValue → ColumnValue
appended c other = record { name = c.name; dtype = c.dtype; slots = c.slots ++ other.slots; chunks = c.chunks ++ other.chunks; sorted = NotSorted; all_used = false }

-- the first chunks of a column, so many, with no flag
abbrev pub first_chunks : ℕ → ColumnValue → ColumnValue
first_chunks count c =
    let kept = take count c.chunks in
    record { name = c.name; dtype = c.dtype; slots = take (sum kept) c.slots; chunks = kept; sorted = NotSorted; all_used = false }

-- the column with no flag
abbrev pub unflagged : ColumnValue → ColumnValue
unflagged c = record { name = c.name; dtype = c.dtype; slots = c.slots; chunks = c.chunks; sorted = NotSorted; all_used = false }

-- there is room for one slot more
abbrev pub HasRoom : ColumnValue → Type 0
HasRoom c = length c.slots + 1 < 2 ^ 63

-- the cells of a type read as its slots: those of a category read as texts, which are given their codes
-- as a whole
abbrev pub ReadsCells : ColumnType → Type 0
ReadsCells (Flat (Categorical texts ordering)) = ⊥
ReadsCells (Flat (Enum texts ordering)) = ⊥
ReadsCells _ = Unit {0}

-- the column with the slot of a cell at its end
abbrev pub column_with : List ℕ → ColumnValue → List ℕ → Option ColumnValue
column_with null_word c cell = option_map (pushed c) (cell_slot null_word c.dtype cell)

-- whether the cell reads, and if so the column has its slot at the end
abbrev pub TakesCell : List ℕ → ColumnValue → ColumnValue → List ℕ → Bool → Type 0
TakesCell null_word old new cell took = if_taken took new ≡ column_with null_word old cell

-- the cell of a column at a row
abbrev pub cell_of : List ℕ → ColumnValue → ℕ → List ℕ
cell_of null_word c row = cell_text null_word c.dtype (slot_at c.slots row)
