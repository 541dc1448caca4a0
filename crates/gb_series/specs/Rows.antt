-- Columns whose rows hold slots of another column: which rows are null, and what the others hold.
use Rattle.std.specs.Prelude.{◌≡◌, ℕ, ◌-◌, ◌<◌, ◌≤◌, Bool, true, false, List, [], ◌∷◌, length, map, slice_index_or, if◌then◌else◌}
use Rattle.std.specs.List.{flat_map, range_with_len}
use Rattle.gb_defs.specs.Slot.{Slot, Nil, Items, is_nil, items_of, slot_at}
use Rattle.gb_defs.specs.Slices.{between}
use Rattle.gb_defs.specs.ColumnType.{ListOf}
use Rattle.gb_defs.specs.Column.{ColumnValue, NotSorted, fresh_column}
use Rattle.gb_values.specs.Array.{Rises, start_of}

-- a row is null, or holds these slots
abbrev pub row_slot : Bool → List Slot → Slot
row_slot present piece = if present then Items (items_of piece) else Nil

-- the slots of rows; a row for which there is no piece holds nothing
abbrev pub rows_of : List Bool → List (List Slot) → List Slot
rows_of [] pieces = []
rows_of (present ∷ rest) [] = row_slot present [] ∷ rows_of rest []
rows_of (present ∷ rest) (piece ∷ pieces) = row_slot present piece ∷ rows_of rest pieces

-- the pieces of a list that end at these places, behind a start
abbrev pub pieces_to : {A : Type 0} → ℕ → List ℕ → List A → List (List A)
pieces_to start [] items = []
pieces_to start (end ∷ ends) items = between start end items ∷ pieces_to end ends items

-- the places that a row's piece has in the list
abbrev pub places_at : List ℕ → ℕ → List ℕ
places_at ends row = range_with_len (start_of 0 ends row) (slice_index_or ends row 0 - start_of 0 ends row)

-- the items of these rows, row after row: where each row's end, and the places that they have now
pub record AreItems (ends rows found places : List ℕ) : Type 0 where
  pub placed : places ≡ flat_map (places_at ends) rows
  pub pieced : pieces_to 0 found places ≡ map (places_at ends) rows
  pub rises : Rises 0 found (length places)

-- ---- whether rows are null

abbrev pub IsAbsent : Bool → Type 0
IsAbsent present = present ≡ false

-- a row is not null, and every later one is
pub record IsLastPresent (present : List Bool) (row : ℕ) : Type 0 where
  pub inside : row < length present
  pub here : slice_index_or present row false ≡ true
  pub later : (k : ℕ) → row < k → k < length present → slice_index_or present k false ≡ false

-- ---- lists

-- the column of lists of these items, with the name and the chunks of a column of as many rows
abbrev pub list_column : ColumnValue → List Bool → List ℕ → ColumnValue → ColumnValue
list_column rows present ends inner =
    record { name = rows.name; dtype = ListOf inner.dtype; slots = rows_of present (pieces_to 0 ends inner.slots); chunks = rows.chunks; sorted = NotSorted; all_used = false }

-- a list of these slots
abbrev pub list_slot : List Slot → Slot
list_slot piece = Items (items_of piece)

-- a column of the pieces of another that end at these places, one a row
abbrev pub lists_of : List ℕ → List ℕ → ColumnValue → ColumnValue
lists_of name ends inner = fresh_column name (ListOf inner.dtype) (map list_slot (pieces_to 0 ends inner.slots))

-- where the items of the last row end
abbrev pub end_of : List ℕ → ℕ
end_of ends = start_of 0 ends (length ends)

-- each row has a flag and an end, and the pieces take up the first items
pub record IsListed (rows : ColumnValue) (present : List Bool) (ends : List ℕ) (inner : ColumnValue) : Type 0 where
  pub flags : length present ≡ length rows.slots
  pub ends_each : length ends ≡ length present
  pub rises : Rises 0 ends (end_of ends)
  pub within : end_of ends ≤ length inner.slots

-- the items of a row, by where those of each row end
abbrev pub row_piece : List ℕ → ℕ → List Slot → List Slot
row_piece ends row items = between (start_of 0 ends row) (slice_index_or ends row 0) items

-- a row's items stand among all
pub record IsPlaced (ends : List ℕ) (items : List Slot) (row : ℕ) : Type 0 where
  pub inside : row < length ends
  pub low : start_of 0 ends row ≤ slice_index_or ends row 0
  pub high : slice_index_or ends row 0 ≤ length items

-- what each row holds that is not null stands among the items, where the row's are
pub record AreRowsOf (slots items : List Slot) (ends : List ℕ) : Type 0 where
  pub placed : (row : ℕ) → row < length slots → IsPlaced ends items row
  pub held : (row : ℕ) → row < length slots → is_nil (slot_at slots row) ≡ false → slot_at slots row ≡ Items (items_of (row_piece ends row items))
