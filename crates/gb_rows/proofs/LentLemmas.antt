-- Rows of keys that are lent.
use Rattle.std.proofs.Common.{◌≡◌, ◌∙◌, ◌≤◌, ◌<◌, ◌^◌, ◌&&◌, ℕ, zero, suc, true, false, not, cond, All, List, [], ◌∷◌, get_or, length, map, refl, ap, subst, sym}
use Rattle.std.specs.List.{list_any, range_with_len}
use Rattle.std.proofs.lemmas.Bool.{or_parts}
use Rattle.gb_defs.specs.Column.{Frame, frame_height}
use Rattle.gb_defs.specs.Slot.{Bytes, Nil}
use Rattle.gb_rows.specs.Cells.{cells_of, is_null_cell}
use Rattle.gb_rows.specs.Lent.{share_of_cells, slot_of_cells, slots_by}
use Rattle.gb_rows.specs.Parts.{row_column}
use Rattle.gb_rows.specs.Rows.{AreOfOneLength, HaveRows, is_full, row_of_cells}
use Rattle.gb_rows.specs.declared.row_nulls.RowNulls.{RowNulls}
use Rattle.gb_rows.specs.declared.row_nulls.RowNulls.TheVariants as nulls
use Rattle.gb_rows.proofs.LengthLemmas.{all_long}
use Rattle.gb_rows.proofs.RowLemmas.{broadcast_are, cells_long, encoded_slots, range_same}

module _ (keys : Frame) (long : AreOfOneLength keys) (columns : List (List (List ℕ))) (cells : columns ≡ map cells_of keys) (height : ℕ) (high : height ≡ frame_height keys) where
  abbrev all : All (λ key. frame_height keys ≤ length key.slots) keys
  all = all_long (frame_height keys) keys long

  -- the columns have all rows
  pub have_rows : height < 2 ^ 63 → HaveRows columns height
  have_rows small = record {
    long = subst (λ n. All (λ cells. n ≤ length cells) columns) (sym high) (subst (λ (cs : List (List (List ℕ))). All (λ cells. frame_height keys ≤ length cells) cs) (sym cells) (cells_long keys (frame_height keys) all));
    few = small;
  }

  slots_of_keys : (nulls : RowNulls) → map (slot_of_cells nulls (map cells_of keys)) (range_with_len 0 (frame_height keys)) ≡ slots_by nulls keys
  slots_of_keys nulls.Encoded = encoded_slots keys (frame_height keys) all
  slots_of_keys nulls.Broadcast = broadcast_are keys (frame_height keys) all

  -- the slots of all rows
  pub slots_are : (nulls : RowNulls) → map (slot_of_cells nulls columns) (range_with_len 0 height) ≡ slots_by nulls keys
  slots_are nulls =
      ap (λ cs. map (slot_of_cells nulls cs) (range_with_len 0 height)) cells ∙ ap (λ n. map (slot_of_cells nulls (map cells_of keys)) (range_with_len 0 n)) high
      ∙ slots_of_keys nulls

-- ---- keys with no null

valid_at : (cells : List (List ℕ)) (row : ℕ) → list_any is_null_cell cells ≡ false → is_null_cell (get_or cells row []) ≡ false
valid_at [] row e = refl
valid_at (cell ∷ cells) zero e = (or_parts (is_null_cell cell) (list_any is_null_cell cells) e).0
valid_at (cell ∷ cells) (suc row) e = valid_at cells row (or_parts (is_null_cell cell) (list_any is_null_cell cells) e).1

all_full : {X : Type 0} (cells : X → List (List ℕ)) (keys : List X) (row : ℕ) → list_any (λ key. list_any is_null_cell (cells key)) keys ≡ false → is_full (map cells keys) row ≡ true
all_full cells [] row e = refl
all_full cells (key ∷ keys) row e =
    let both = or_parts (list_any is_null_cell (cells key)) (list_any (λ key. list_any is_null_cell (cells key)) keys) e in
    ap (λ null. not null && is_full (map cells keys) row) (valid_at (cells key) row both.0) ∙ all_full cells keys row both.1

-- each row has its bytes
pub no_nulls : {X : Type 0} (cells : X → List (List ℕ)) (keys : List X) (wanted : RowNulls) → list_any (λ key. list_any is_null_cell (cells key)) keys ≡ false
    → (row : ℕ) → slot_of_cells nulls.Encoded (map cells keys) row ≡ slot_of_cells wanted (map cells keys) row
no_nulls cells keys nulls.Encoded e row = refl
no_nulls cells keys nulls.Broadcast e row = ap (λ full. cond full (Bytes (row_of_cells (map cells keys) row)) Nil) (sym (all_full cells keys row e))

-- a share with what serves as well
pub same_share : (columns : List (List (List ℕ))) (used wanted : RowNulls) (range : ℕ × ℕ) → ((row : ℕ) → slot_of_cells used columns row ≡ slot_of_cells wanted columns row) → share_of_cells used columns range ≡ share_of_cells wanted columns range
same_share columns used wanted range serves = ap row_column (range_same (slot_of_cells used columns) (slot_of_cells wanted columns) range.0 range.1 (λ r lt. serves r))
