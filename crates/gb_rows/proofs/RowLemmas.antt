-- Rows of the cells of keys, by their numbers.
use Rattle.std.proofs.Common.{◌≡◌, Bool, true, false, not, cond, ◌&&◌, ◌||◌, ◌+◌, ◌-◌, ◌<◌, ◌≤◌, ℕ, zero, suc, All, List, [], ◌∷◌, ◌++◌, length, map, drop, get_or, refl, ap, arith, ◌∙◌, sym, add-one}
use Rattle.std.proofs.Math.Seq.{drop-cons}
use Rattle.std.specs.List.{AllByRecursion, list_any, range_with_len}
use Rattle.std.proofs.lemmas.List.{append-nil, drop_all, get_or-map}
use Rattle.std.proofs.lemmas.List.Elements.{recursion_from_All}
use Rattle.std.proofs.lemmas.List.FromFn.{get_or-map-range_with_len, length-map-range_with_len}
use Rattle.gb_defs.specs.Classes.{agree_by, same_slot}
use Rattle.gb_defs.specs.Column.{ColumnValue, Frame, frame_height}
use Rattle.gb_defs.specs.ColumnType.{ColumnType}
use Rattle.gb_defs.specs.RowBytes.{cell_bytes, row_bytes, slot_bytes}
use Rattle.gb_defs.specs.Slot.{Slot, Bytes, Items, Nil, Num, is_nil, slot_at, slot_eq}
use Rattle.gb_rows.specs.Cells.{cells_of, is_null_cell}
use Rattle.gb_rows.specs.Parts.{has_nil}
use Rattle.gb_rows.specs.Rows.{all_row_bytes, is_full, row_of_cells, row_slots, rows_of_cells}
use Rattle.gb_rows.specs.Told.{AreToldByRows}

pub range_same : {X : Type 0} (f g : ℕ → X) (start n : ℕ) → ((r : ℕ) → r < start + n → f r ≡ g r) → map f (range_with_len start n) ≡ map g (range_with_len start n)
range_same f g start zero h = refl
range_same f g start (suc n) h =
    ap (λ x. x ∷ map f (range_with_len (start + 1) n)) (h start (omega arith))
    ∙ ap (λ xs. g start ∷ xs) (range_same f g (start + 1) n (λ r lt. h r (omega (arith, lt))))

cell_at : (t : ColumnType) (slots : List Slot) (r : ℕ) → r < length slots → get_or (map (slot_bytes t) slots) r [] ≡ slot_bytes t (slot_at slots r)
cell_at t [] r lt = absurd (omega (arith, lt))
cell_at t (s ∷ slots) zero lt = refl
cell_at t (s ∷ slots) (suc r) lt = cell_at t slots r (omega (arith, lt))

row_at : (keys : Frame) (end r : ℕ) → AllByRecursion (λ key. end ≤ length key.slots) keys → r < end → row_of_cells (map cells_of keys) r ≡ row_bytes keys r
row_at [] end r long lt = refl
row_at (key ∷ keys) end r long lt =
    ap (λ cell. cell ++ row_of_cells (map cells_of keys) r) (cell_at key.dtype key.slots r (omega (arith, long.0, lt)))
    ∙ ap (λ rest. cell_bytes r key ++ rest) (row_at keys end r long.1 lt)

-- rows of the cells of keys are the rows of the keys
pub rows_are : (keys : Frame) (start end : ℕ) → start ≤ end → All (λ key. end ≤ length key.slots) keys → rows_of_cells start end (map cells_of keys) ≡ map (row_bytes keys) (range_with_len start (end - start))
rows_are keys start end le long =
    range_same (row_of_cells (map cells_of keys)) (row_bytes keys) start (end - start)
    (λ r lt. row_at keys end r (recursion_from_All (λ key. end ≤ length key.slots) keys long) (omega (arith, lt, le)))

slots_long : (t : ColumnType) (slots : List Slot) → length (map (slot_bytes t) slots) ≡ length slots
slots_long t [] = refl
slots_long t (s ∷ slots) = ap suc (slots_long t slots)

-- the cells are as many
pub cells_long : (keys : Frame) (count : ℕ) → All (λ key. count ≤ length key.slots) keys → All (λ cells. count ≤ length cells) (map cells_of keys)
cells_long [] count long k d lt = absurd (omega (arith, lt))
cells_long (key ∷ keys) count long zero d lt = omega (arith, long 0 key (omega arith), slots_long key.dtype key.slots)
cells_long (key ∷ keys) count long (suc k) d lt = cells_long keys count (λ j e less. long (suc j) e (omega (arith, less))) k d (omega (arith, lt))

-- the rows of one key are its cells
pub one_key : (key : ColumnValue) → map (row_bytes (key ∷ [])) (range_with_len 0 (length key.slots)) ≡ cells_of key
one_key key =
    range_same (row_bytes (key ∷ [])) (λ r. get_or (cells_of key) r []) 0 (length key.slots)
    (λ r lt. append-nil (cell_bytes r key) ∙ sym (cell_at key.dtype key.slots r (omega (arith, lt))))
    ∙ all_of (cells_of key) (length key.slots) (slots_long key.dtype key.slots)
  where
    from_place : (cells : List (List ℕ)) (start n : ℕ) → start + n ≡ length cells → map (λ r. get_or cells r []) (range_with_len start n) ≡ drop start cells
    from_place cells start zero e = sym (drop_all start cells (omega (arith, e)))
    from_place cells start (suc n) e =
        ap (λ rest. get_or cells start [] ∷ rest) (from_place cells (start + 1) n (omega (arith, e)) ∙ ap (λ k. drop k cells) (add-one start))
        ∙ sym (drop-cons cells start [] (omega (arith, e)))

    all_of : (cells : List (List ℕ)) (n : ℕ) → length cells ≡ n → map (λ r. get_or cells r []) (range_with_len 0 n) ≡ cells
    all_of cells n e = from_place cells 0 n (omega (arith, e))

-- ---- rows with nulls

null_cell : (t : ColumnType) (s : Slot) → is_null_cell (slot_bytes t s) ≡ is_nil s
null_cell t Nil = refl
null_cell t (Num n) = refl
null_cell t (Bytes bytes) = refl
null_cell t (Items slots) = refl

-- the cells of nulls are those with the mark of a null
pub null_cells : (t : ColumnType) (slots : List Slot) → list_any is_null_cell (map (slot_bytes t) slots) ≡ list_any is_nil slots
null_cells t [] = refl
null_cells t (s ∷ slots) = ap (λ null. null || list_any is_null_cell (map (slot_bytes t) slots)) (null_cell t s) ∙ ap (λ any. is_nil s || any) (null_cells t slots)

not_or : (a b : Bool) → (not a && not b) ≡ not (a || b)
not_or true b = refl
not_or false b = refl

full_row : (keys : Frame) (end r : ℕ) → AllByRecursion (λ key. end ≤ length key.slots) keys → r < end → is_full (map cells_of keys) r ≡ not (has_nil keys r)
full_row [] end r long lt = refl
full_row (key ∷ keys) end r long lt =
    let slot = slot_at key.slots r in
    ap (λ cell. not (is_null_cell cell) && is_full (map cells_of keys) r) (cell_at key.dtype key.slots r (omega (arith, long.0, lt)))
    ∙ ap (λ null. not null && is_full (map cells_of keys) r) (null_cell key.dtype slot)
    ∙ ap (λ full. not (is_nil slot) && full) (full_row keys end r long.1 lt)
    ∙ not_or (is_nil slot) (has_nil keys r)

turned : {X : Type 0} (b : Bool) (x y : X) → cond (not b) x y ≡ cond b y x
turned true x y = refl
turned false x y = refl

pub map_twice : {X Y : Type 0} (g : X → Y) (f : ℕ → X) (rows : List ℕ) → map (λ r. g (f r)) rows ≡ map g (map f rows)
map_twice g f [] = refl
map_twice g f (r ∷ rows) = ap (λ ys. g (f r) ∷ ys) (map_twice g f rows)

-- the slots of rows from cells are those of keys
module _ (keys : Frame) (height : ℕ) (all : All (λ key. height ≤ length key.slots) keys) where
  abbrev long : AllByRecursion (λ key. height ≤ length key.slots) keys
  long = recursion_from_All (λ key. height ≤ length key.slots) keys all

  pub encoded_slots : map (λ r. Bytes (row_of_cells (map cells_of keys) r)) (range_with_len 0 height) ≡ map (λ bytes. Bytes bytes) (map (row_bytes keys) (range_with_len 0 height))
  encoded_slots =
      range_same (λ r. Bytes (row_of_cells (map cells_of keys) r)) (λ r. Bytes (row_bytes keys r)) 0 height (λ r lt. ap (λ bytes. Bytes bytes) (row_at keys height r long (omega (arith, lt))))
      ∙ map_twice (λ bytes. Bytes bytes) (row_bytes keys) (range_with_len 0 height)

  pub broadcast_are : map (λ r. cond (is_full (map cells_of keys) r) (Bytes (row_of_cells (map cells_of keys) r)) Nil) (range_with_len 0 height)
      ≡ map (λ r. cond (has_nil keys r) Nil (Bytes (row_bytes keys r))) (range_with_len 0 height)
  broadcast_are =
      range_same _ (λ r. cond (has_nil keys r) Nil (Bytes (row_bytes keys r))) 0 height (λ r lt.
      let less : r < height = omega (arith, lt) in
      ap (λ bytes. cond (is_full (map cells_of keys) r) (Bytes bytes) Nil) (row_at keys height r long less)
      ∙ ap (λ full. cond full (Bytes (row_bytes keys r)) Nil) (full_row keys height r long less)
      ∙ turned (has_nil keys r) (Bytes (row_bytes keys r)) Nil)

-- ---- columns of rows

row_slot_at : (keys : Frame) (i : ℕ) → i < frame_height keys → slot_at (row_slots keys) i ≡ Bytes (row_bytes keys i)
row_slot_at keys i lt =
    let n = frame_height keys in
    get_or-map (λ bytes. Bytes bytes) (all_row_bytes keys) i [] Nil (omega (arith, lt, length-map-range_with_len (row_bytes keys) 0 n))
    ∙ ap (λ bytes. Bytes bytes) (get_or-map-range_with_len (row_bytes keys) 0 n i i [] lt (omega arith))

-- rows of the column have one slot where they have the same slots in all keys
pub same_rows : (keys : Frame) (i j : ℕ) → AreToldByRows keys → i < frame_height keys → j < frame_height keys → same_slot (row_slots keys) i j ≡ agree_by (map (λ key. key.slots) keys) i j
same_rows keys i j told first second =
    ap (λ s. slot_eq s (slot_at (row_slots keys) j)) (row_slot_at keys i first)
    ∙ ap (λ s. slot_eq (Bytes (row_bytes keys i)) s) (row_slot_at keys j second)
    ∙ told.same i j first second
