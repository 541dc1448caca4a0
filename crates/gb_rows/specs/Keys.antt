-- The cells of columns of any type.
use Rattle.std.specs.Prelude.{◌≡◌, ℕ, ◌<◌, ◌≤◌, List, [], ◌∷◌, ◌++◌, length, slice_index_or, false}
use Rattle.gb_defs.specs.Column.{ColumnValue}
use Rattle.gb_defs.specs.RowBytes.{slot_bytes}
use Rattle.gb_defs.specs.Slices.{between}
use Rattle.gb_defs.specs.Slot.{is_nil, slot_at}
use Rattle.gb_values.specs.Array.{start_of}
use Rattle.gb_flat_series.specs.FlatSeries.{column_of}
use Rattle.gb_rows.specs.Cells.{cells_of, made_cells, marked}
use Rattle.gb_rows.specs.declared.keys.KeyCells.{KeyCells}
use Rattle.gb_rows.specs.declared.keys.KeyCells.TheVariants as key

abbrev pub key_cells : KeyCells → List (List ℕ)
key_cells (key.Flat c) = cells_of (column_of c.now)
key_cells (key.Made made) = made_cells made

-- a row's items stand among all
pub record HoldsItems (ends : List ℕ) (items : List (List ℕ)) (row : ℕ) : Type 0 where
  pub inside : row < length ends
  pub low : start_of 0 ends row ≤ slice_index_or ends row 0
  pub high : slice_index_or ends row 0 ≤ length items

-- behind the mark of a row: its items, each with a mark before it, and an end
abbrev pub items_body : List ℕ → List (List ℕ) → ℕ → List ℕ → List ℕ → List ℕ
items_body ends items row mark end = marked mark (between (start_of 0 ends row) (slice_index_or ends row 0) items) ++ end

-- each row that is no null is told by the cells of its items
pub record AreItemCells (c : ColumnValue) (items : List (List ℕ)) (ends mark end : List ℕ) : Type 0 where
  pub placed : (row : ℕ) → row < length c.slots → HoldsItems ends items row
  pub told : (row : ℕ) → row < length c.slots → is_nil (slot_at c.slots row) ≡ false → slot_bytes c.dtype (slot_at c.slots row) ≡ 1 ∷ items_body ends items row mark end

-- each row that is no null is told by the row of its fields
pub record AreFieldCells (c : ColumnValue) (rows : List (List ℕ)) : Type 0 where
  pub long : length rows ≡ length c.slots
  pub told : (row : ℕ) → row < length c.slots → is_nil (slot_at c.slots row) ≡ false → slot_bytes c.dtype (slot_at c.slots row) ≡ 1 ∷ slice_index_or rows row []
