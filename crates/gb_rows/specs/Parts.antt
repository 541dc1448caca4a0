-- Columns of rows, in parts.
use Rattle.std.specs.Prelude.{◌≡◌, ℕ, Bool, cond, All, List, [], ◌∷◌, length, map}
use Rattle.std.specs.List.{flat_map, list_any, range_with_len}
use Rattle.gb_defs.specs.Column.{ColumnValue, Frame, fresh_column, frame_height}
use Rattle.gb_defs.specs.ColumnType.{BinaryOffset, Flat}
use Rattle.gb_defs.specs.Flat.{ranges_of}
use Rattle.gb_defs.specs.RowBytes.{row_bytes}
use Rattle.gb_defs.specs.Slot.{Slot, Bytes, Nil, is_nil, slot_at}
use Rattle.gb_cols.specs.Column.{appended}
use Rattle.gb_rows.specs.Rows.{row_slots}

abbrev pub row_column : List Slot → ColumnValue
row_column slots = fresh_column [] (Flat BinaryOffset) slots

-- a chunk for each worker
abbrev pub in_parts : ℕ → ℕ → List Slot → ColumnValue
in_parts workers height slots = record (row_column slots) { chunks = map (λ range. range.1) (ranges_of height workers) }

-- whether some key's slot is a null
abbrev pub has_nil : Frame → ℕ → Bool
has_nil keys row = list_any (λ key. is_nil (slot_at key.slots row)) keys

-- the bytes of all rows, and a null for each row in which some key's slot is one
abbrev pub broadcast_slots : Frame → List Slot
broadcast_slots keys = map (λ row. cond (has_nil keys row) Nil (Bytes (row_bytes keys row))) (range_with_len 0 (frame_height keys))

-- the rows of keys in a chunk for each worker
abbrev pub rows_in_parts : ℕ → Frame → ColumnValue
rows_in_parts workers keys = in_parts workers (frame_height keys) (row_slots keys)

-- the same with nulls for rows that have one
abbrev pub broadcast_in_parts : ℕ → Frame → ColumnValue
broadcast_in_parts workers keys = in_parts workers (frame_height keys) (broadcast_slots keys)

-- ---- chunks

-- each column is one chunk of rows
abbrev pub AreRowChunks : List ColumnValue → Type 0
AreRowChunks columns = All (λ c. c ≡ row_column c.slots) columns

-- chunks of rows, one behind the other
abbrev pub joined_chunks : List ColumnValue → ColumnValue
joined_chunks columns = record (row_column (flat_map (λ c. c.slots) columns)) { chunks = map (λ c. length c.slots) columns }

-- a column with others behind it
abbrev pub with_behind : ColumnValue → List ColumnValue → ColumnValue
with_behind c [] = c
with_behind c (other ∷ others) = with_behind (appended c other) others
