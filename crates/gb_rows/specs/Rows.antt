-- Rows of the cells of several columns.
use Rattle.std.specs.Prelude.{◌≡◌, ℕ, ◌≤◌, ◌<◌, ◌^◌, Bool, not, true, ◌-◌, All, length, List, [], ◌∷◌, map, get_or}
use Rattle.std.specs.List.{flat_map, list_all, range_with_len}
use Rattle.gb_defs.specs.Column.{Frame, all_have_length, frame_height}
use Rattle.gb_defs.specs.RowBytes.{row_bytes}
use Rattle.gb_defs.specs.Slot.{Slot, Bytes}
use Rattle.gb_rows.specs.Cells.{is_null_cell}
use Rattle.gb_rows.specs.Zipped.{zip_onto}

-- each column has the cells of the rows below a number, which is small
pub record HaveRows (columns : List (List (List ℕ))) (end : ℕ) : Type 0 where
  pub long : All (λ cells. end ≤ length cells) columns
  pub few : end < 2 ^ 63

-- the cells of a row, one behind the other
abbrev pub row_of_cells : List (List (List ℕ)) → ℕ → List ℕ
row_of_cells columns row = flat_map (λ cells. get_or cells row []) columns

-- the rows from one up to another
abbrev pub rows_of_cells : ℕ → ℕ → List (List (List ℕ)) → List (List ℕ)
rows_of_cells start end columns = map (row_of_cells columns) (range_with_len start (end - start))

-- whether a row has a value in every column
abbrev pub is_full : List (List (List ℕ)) → ℕ → Bool
is_full columns row = list_all (λ cells. not (is_null_cell (get_or cells row []))) columns

-- the same for the rows from one up to another
abbrev pub full_of_cells : ℕ → ℕ → List (List (List ℕ)) → List Bool
full_of_cells start end columns = map (is_full columns) (range_with_len start (end - start))

-- what rows come to that take the cells of each column
abbrev pub laid : {S : Type 0} → (List ℕ → S → S) → List (List (List ℕ)) → List S → List S
laid f [] rows = rows
laid f (cells ∷ columns) rows = laid f columns (zip_onto f cells rows)

-- ---- keys

-- the columns are as long as the first
abbrev pub AreOfOneLength : Frame → Type 0
AreOfOneLength keys = all_have_length (frame_height keys) keys ≡ true

-- the bytes of all rows. Without columns there are none
abbrev pub all_row_bytes : Frame → List (List ℕ)
all_row_bytes keys = map (row_bytes keys) (range_with_len 0 (frame_height keys))

abbrev pub row_slots : Frame → List Slot
row_slots keys = map (λ bytes. Bytes bytes) (all_row_bytes keys)
