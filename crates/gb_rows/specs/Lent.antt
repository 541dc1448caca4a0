-- Keys that are lent, and rows of their cells.
use Rattle.std.specs.Prelude.{ℕ, cond, List, map}
use Rattle.std.specs.Borrow.{Bor}
use Rattle.std.specs.List.{range_with_len}
use Rattle.gb_defs.specs.Column.{ColumnValue, Frame}
use Rattle.gb_defs.specs.Slot.{Slot, Bytes, Nil}
use Rattle.gb_series.specs.Series.{value_of}
use Rattle.gb_series.specs.declared.series.Series.{Series}
use Rattle.gb_rows.specs.Keys.{key_cells}
use Rattle.gb_rows.specs.Parts.{broadcast_slots, row_column}
use Rattle.gb_rows.specs.Rows.{is_full, row_of_cells, row_slots}
use Rattle.gb_rows.specs.declared.lent_key.LentKey.{LentKey}
use Rattle.gb_rows.specs.declared.row_nulls.RowNulls.{RowNulls}
use Rattle.gb_rows.specs.declared.row_nulls.RowNulls.TheVariants as nulls

abbrev pub keys_in : List (Bor Series) → Frame
keys_in by = map (λ key. value_of key.now) by

abbrev pub lent_cells : LentKey → List (List ℕ)
lent_cells key = key_cells key.cells

-- ---- slots of rows

-- the slots of all rows
abbrev pub slots_by : RowNulls → Frame → List Slot
slots_by nulls.Encoded keys = row_slots keys
slots_by nulls.Broadcast keys = broadcast_slots keys

-- the slot of a row, from its cells
abbrev pub slot_of_cells : RowNulls → List (List (List ℕ)) → ℕ → Slot
slot_of_cells nulls.Encoded columns row = Bytes (row_of_cells columns row)
slot_of_cells nulls.Broadcast columns row = cond (is_full columns row) (Bytes (row_of_cells columns row)) Nil

-- the rows of a range, its first and how many they are
abbrev pub share_of_cells : RowNulls → List (List (List ℕ)) → ℕ × ℕ → ColumnValue
share_of_cells nulls columns range = row_column (map (slot_of_cells nulls columns) (range_with_len range.0 range.1))
