-- A table's text, read. The records and their fields are those that `csv` reads with a flexible reader,
-- with no header row and no trimming, from the bytes after a byte order mark. Faults come in reading
-- order; rows count from 0, the header, and columns from 1. A header field that is no text is a bad cell
-- of the header.
use Rattle.std.specs.Prelude.{ℕ, suc, pos, ◌==◌, Bool, true, not, List, [], ◌∷◌, ◌++◌, map, length, position, Option, Some, None, unwrap_or, Result, Ok, Err, if◌then◌else◌}
use Rattle.std.specs.Str.{bytes_eq, is_utf8}
use Rattle.std.specs.List.{list_any, before_last, after_last}
use Rattle.csv.specs.Reading.{records, default_config, strip_bom}
use Rattle.gb_defs.specs.Slot.{Slot, Num, Bytes, slot_at}
use Rattle.gb_defs.specs.ColumnType.{CategoricalOrdering, Categorical, ColumnType, FlatType, Flat, text}
use Rattle.gb_defs.specs.Column.{ColumnValue, Frame, NotSorted, fresh_column}
use Rattle.gb_defs.specs.TypeWord.{type_of_word}
use Rattle.gb_defs.specs.Cell.{cell_slot}

pub data TableFault : Type 0 where
  NoHeader : TableFault
  SameName : ℕ → TableFault
  -- the row, its fields, and the fields that are wanted
  Ragged : ℕ → ℕ → ℕ → TableFault
  -- the row and the column
  BadCell : ℕ → ℕ → TableFault

pub record Head : Type 0 where
  pub name : List ℕ
  pub dtype : ColumnType

abbrev pub is_colon : ℕ → Bool
is_colon c = c == 58

abbrev pub head_by_word : List ℕ → Option FlatType → Head
head_by_word field None = record { name = field; dtype = text }
head_by_word field (Some t) = record { name = before_last is_colon field; dtype = Flat t }

-- a header field is cut at its last colon, if a type's word follows it
unfoldable pub head_of : List ℕ → Head
head_of field = head_by_word field (if list_any is_colon field then type_of_word (after_last is_colon field) else None)

abbrev pub onto : {A : Type 0} → A → Result (List A) TableFault → Result (List A) TableFault
onto x (Ok xs) = Ok (x ∷ xs)
onto x (Err fault) = Err fault

-- the columns from the k-th on, after those with the names `seen`
abbrev pub heads_from : ℕ → List (List ℕ) → List (List ℕ) → Result (List Head) TableFault
heads_from k seen [] = Ok []
heads_from k seen (field ∷ fields) =
    if not (is_utf8 field) then Err (BadCell 0 k)
    else if list_any (bytes_eq (head_of field).name) seen then Err (SameName k)
    else onto (head_of field) (heads_from (suc k) ((head_of field).name ∷ seen) fields)

abbrev pub heads_of : List (List ℕ) → Result (List Head) TableFault
heads_of fields = heads_from 1 [] fields

abbrev pub cell_onto : ℕ → ℕ → Option Slot → Result (List Slot) TableFault → Result (List Slot) TableFault
cell_onto row k None rest = Err (BadCell row k)
cell_onto row k (Some slot) rest = onto slot rest

-- the cells of a record from the k-th on
abbrev pub cells_from : List ℕ → ℕ → ℕ → List Head → List (List ℕ) → Result (List Slot) TableFault
cells_from null_word row k [] fields = Ok []
cells_from null_word row k (head ∷ heads) [] = Ok []
cells_from null_word row k (head ∷ heads) (field ∷ fields) =
    cell_onto row k (cell_slot null_word head.dtype field) (cells_from null_word row (suc k) heads fields)

-- the slots of a record
abbrev pub record_slots : List ℕ → ℕ → List Head → List (List ℕ) → Result (List Slot) TableFault
record_slots null_word row heads fields =
    if length fields == length heads then cells_from null_word row 1 heads fields else Err (Ragged row (length fields) (length heads))

abbrev pub row_onto : Result (List Slot) TableFault → Result (List (List Slot)) TableFault → Result (List (List Slot)) TableFault
row_onto (Err fault) rest = Err fault
row_onto (Ok slots) rest = onto slots rest

-- the slots of each record from this row on
abbrev pub rows_from : List ℕ → ℕ → List Head → List (List (List ℕ)) → Result (List (List Slot)) TableFault
rows_from null_word row heads [] = Ok []
rows_from null_word row heads (fields ∷ rest) = row_onto (record_slots null_word row heads fields) (rows_from null_word (suc row) heads rest)

-- the k-th slot of each row
abbrev pub slots_of_column : ℕ → List (List Slot) → List Slot
slots_of_column k rows = map (λ row. slot_at row k) rows

-- ---- the texts of a category column, by the order in which they first stand

abbrev pub with_text : List (List ℕ) → Slot → List (List ℕ)
with_text texts (Bytes bytes) = if list_any (bytes_eq bytes) texts then texts else texts ++ bytes ∷ []
with_text texts _ = texts

-- the texts of the slots behind those that are known
abbrev pub texts_after : List (List ℕ) → List Slot → List (List ℕ)
texts_after texts [] = texts
texts_after texts (slot ∷ slots) = texts_after (with_text texts slot) slots

abbrev pub texts_in : List Slot → List (List ℕ)
texts_in slots = texts_after [] slots

-- the code of a text: how many others first stand before it
abbrev pub coded_slot : List (List ℕ) → Slot → Slot
coded_slot texts (Bytes bytes) = Num (pos (unwrap_or (position (bytes_eq bytes) texts) 0))
coded_slot texts slot = slot

abbrev pub category_column : List ℕ → CategoricalOrdering → List Slot → ColumnValue
category_column name ordering slots = record {
  name = name;
  dtype = Flat (Categorical (Some (texts_in slots)) ordering);
  slots = map (coded_slot (texts_in slots)) slots;
  chunks = length slots ∷ [];
  sorted = NotSorted;
  all_used = true;
}

-- the column of a name and a type whose cells read as these slots
abbrev pub read_column : List ℕ → ColumnType → List Slot → ColumnValue
read_column name (Flat (Categorical texts ordering)) slots = category_column name ordering slots
read_column name t slots = fresh_column name t slots

-- the columns from the k-th on
abbrev pub columns_from : ℕ → List Head → List (List Slot) → Frame
columns_from k [] rows = []
columns_from k (head ∷ heads) rows = read_column head.name head.dtype (slots_of_column k rows) ∷ columns_from (suc k) heads rows

abbrev pub frame_by_rows : List Head → Result (List (List Slot)) TableFault → Result Frame TableFault
frame_by_rows heads (Err fault) = Err fault
frame_by_rows heads (Ok rows) = Ok (columns_from 0 heads rows)

abbrev pub frame_by_heads : List ℕ → Result (List Head) TableFault → List (List (List ℕ)) → Result Frame TableFault
frame_by_heads null_word (Err fault) rest = Err fault
frame_by_heads null_word (Ok heads) rest = frame_by_rows heads (rows_from null_word 1 heads rest)

abbrev pub table_of_records : List ℕ → List (List (List ℕ)) → Result Frame TableFault
table_of_records null_word [] = Err NoHeader
table_of_records null_word (header ∷ rest) = frame_by_heads null_word (heads_of header) rest

-- the frame that the bytes are, or the first fault
unfoldable pub table : List ℕ → List ℕ → Result Frame TableFault
table bytes null_word = table_of_records null_word (records default_config (strip_bom bytes))
