-- The bytes of a column's slots, a cell a row, and what rows come to that take cells.
use Rattle.std.specs.Prelude.{ℕ, ◌+◌, ◌==◌, ◌&&◌, Bool, not, List, [], ◌∷◌, ◌++◌, get_or, length, map}
use Rattle.std.specs.List.{flat_map}
use Rattle.gb_defs.specs.Column.{ColumnValue}
use Rattle.gb_defs.specs.Slot.{Slot, Bytes, Items, Nil, Num}
use Rattle.gb_defs.specs.RowBytes.{ended_bytes, slot_bytes}

-- the cells of a column
abbrev pub cells_of : ColumnValue → List (List ℕ)
cells_of c = map (slot_bytes c.dtype) c.slots

-- the cell of a text or of other bytes
abbrev pub bytes_cell : List ℕ → List ℕ
bytes_cell bytes = 1 ∷ ended_bytes bytes

-- the length of a row with a cell more
abbrev pub longer : List ℕ → ℕ → ℕ
longer cell count = count + length cell

-- a row with a cell more
abbrev pub behind : List ℕ → List ℕ → List ℕ
behind cell row = row ++ cell

-- cells one behind the other, each with a mark before it
abbrev pub marked : List ℕ → List (List ℕ) → List ℕ
marked mark cells = flat_map (λ cell. mark ++ cell) cells

-- whether a cell is that of a null
abbrev pub is_null_cell : List ℕ → Bool
is_null_cell cell = get_or cell 0 1 == 0

-- whether a row has a value in every cell, with a cell more
abbrev pub still_full : List ℕ → Bool → Bool
still_full cell full = full && not (is_null_cell cell)

-- the bytes that a column holds, each the cell of a row
abbrev pub bytes_held : Slot → List ℕ
bytes_held (Bytes bytes) = bytes
bytes_held Nil = []
bytes_held (Num n) = []
bytes_held (Items slots) = []

abbrev pub made_cells : ColumnValue → List (List ℕ)
made_cells c = map bytes_held c.slots
