-- The cells of keys of any type, and rows of them.
use Rattle.std.proofs.Common.{◌≡◌, Bool, not, ◌+◌, ◌-◌, ◌<◌, ℕ, suc, List, [], ◌∷◌, ◌++◌, length, map, take, get_or, refl, ap, arith, ◌∙◌, sym, false, true}
use Rattle.std.specs.List.{range_with_len}
use Rattle.std.proofs.lemmas.List.{append-nil, length-map, map-append, take_more}
use Rattle.std.proofs.lemmas.List.FromFn.{get_or-map-range_with_len, length-map-range_with_len}
use Rattle.gb_base.specs.DataType.{fields_of}
use Rattle.gb_defs.specs.Column.{ColumnValue, Frame}
use Rattle.gb_defs.specs.ColumnType.{ColumnType, Fields, Field, ListOf, ArrayOf, StructOf, field_type}
use Rattle.gb_defs.specs.RowBytes.{cell_bytes, parts_bytes, row_bytes, slot_bytes}
use Rattle.gb_defs.specs.Slices.{between}
use Rattle.gb_defs.specs.Slot.{Slot, Bytes, Items, Nil, Num, is_nil, items_of, slot_at}
use Rattle.gb_values.specs.Array.{start_of}
use Rattle.std.specs.Prelude.{slice_index_or}
use Rattle.gb_values.proofs.ValueLemmas.{part_mapped}
use Rattle.gb_series.specs.Rows.{AreRowsOf, IsPlaced, row_piece}
use Rattle.gb_series.specs.Structs.{AreFieldsOf, across, field_part, struct_type}
use Rattle.gb_cols.specs.Column.{pushed}
use Rattle.gb_rows.specs.Cells.{bytes_held, made_cells, marked}
use Rattle.gb_rows.specs.Keys.{AreFieldCells, AreItemCells, HoldsItems}
use Rattle.gb_rows.proofs.ItemLemmas.{array_parts, list_parts}

-- ---- lists and arrays

-- the cells of a row's items
piece_cells : (t : ColumnType) (slots : List Slot) (ends : List ℕ) (items : List (List ℕ)) (row : ℕ) → items ≡ map (slot_bytes t) slots → map (slot_bytes t) (row_piece ends row slots) ≡ between (start_of 0 ends row) (slice_index_or ends row 0) items
piece_cells t slots ends items row cells =
    let start = start_of 0 ends row in
    let end = slice_index_or ends row 0 in
    part_mapped (slot_bytes t) slots start (end - start) ∙ ap (between start end) (sym cells)

holds_items : (slots : List Slot) (t : ColumnType) (ends : List ℕ) (items : List (List ℕ)) (row : ℕ) → IsPlaced ends slots row → items ≡ map (slot_bytes t) slots → HoldsItems ends items row
holds_items slots t ends items row placed cells =
    record { inside = placed.inside; low = placed.low; high = omega (arith, placed.high, ap length cells ∙ length-map slots (slot_bytes t)) }

-- the rows of lists of these slots
pub list_told : (c : ColumnValue) (t : ColumnType) (slots : List Slot) (ends : List ℕ) (items : List (List ℕ)) → c.dtype ≡ ListOf t → AreRowsOf c.slots slots ends → items ≡ map (slot_bytes t) slots → AreItemCells c items ends (1 ∷ []) (0 ∷ [])
list_told c t slots ends items typed rows cells = record {
  placed = λ row lt. holds_items slots t ends items row (rows.placed row lt) cells;
  told = λ row lt valid.
      ap (λ d. slot_bytes d (slot_at c.slots row)) typed
      ∙ ap (slot_bytes (ListOf t)) (rows.held row lt valid)
      ∙ ap (λ body. 1 ∷ body) (list_parts t 0 (row_piece ends row slots) ∙ ap (λ some. marked (1 ∷ []) some ++ 0 ∷ []) (piece_cells t slots ends items row cells));
}

-- the rows of arrays
pub array_told : (c : ColumnValue) (t : ColumnType) (width : ℕ) (slots : List Slot) (ends : List ℕ) (items : List (List ℕ)) → c.dtype ≡ ArrayOf t width → AreRowsOf c.slots slots ends → items ≡ map (slot_bytes t) slots → AreItemCells c items ends [] []
array_told c t width slots ends items typed rows cells = record {
  placed = λ row lt. holds_items slots t ends items row (rows.placed row lt) cells;
  told = λ row lt valid.
      ap (λ d. slot_bytes d (slot_at c.slots row)) typed
      ∙ ap (slot_bytes (ArrayOf t width)) (rows.held row lt valid)
      ∙ ap (λ body. 1 ∷ body) (array_parts t width 0 (row_piece ends row slots) ∙ ap (marked []) (piece_cells t slots ends items row cells) ∙ sym (append-nil (marked [] (between (start_of 0 ends row) (slice_index_or ends row 0) items))));
}

-- ---- structs

-- the fields from the k-th on have these types
abbrev AreTyped : Fields → ℕ → Frame → Type 0
AreTyped fs k [] = Unit {0}
AreTyped fs k (c ∷ cs) = (field_type fs k ≡ c.dtype) × AreTyped fs (suc k) cs

typed_more : (name : List ℕ) (t : ColumnType) (fs : Fields) (k : ℕ) (cs : Frame) → AreTyped fs k cs → AreTyped (Field name t fs) (suc k) cs
typed_more name t fs k [] h = tt
typed_more name t fs k (c ∷ cs) h = (h.0, typed_more name t fs (suc k) cs h.1)

own_types : (cs : Frame) → AreTyped (fields_of (map field_part cs)) 0 cs
own_types [] = tt
own_types (c ∷ cs) = (refl, typed_more c.name c.dtype (fields_of (map field_part cs)) 0 cs (own_types cs))

across_parts : (fs : Fields) (k : ℕ) (cs : Frame) (row : ℕ) → AreTyped fs k cs → parts_bytes (StructOf fs) k (items_of (across cs row)) ≡ row_bytes cs row
across_parts fs k [] row h = refl
across_parts fs k (c ∷ cs) row h =
    ap (λ d. slot_bytes d (slot_at c.slots row) ++ parts_bytes (StructOf fs) (suc k) (items_of (across cs row))) h.0
    ∙ ap (λ rest. cell_bytes row c ++ rest) (across_parts fs (suc k) cs row h.1)

-- the rows of structs of these fields
pub fields_told : (c : ColumnValue) (fields : Frame) (rows : List (List ℕ)) → AreFieldsOf c fields → rows ≡ map (row_bytes fields) (range_with_len 0 (length c.slots)) → AreFieldCells c rows
fields_told c fields rows held e = record {
  long = ap length e ∙ length-map-range_with_len (row_bytes fields) 0 (length c.slots);
  told = λ row lt valid.
      ap (λ d. slot_bytes d (slot_at c.slots row)) (sym held.typed)
      ∙ ap (slot_bytes (struct_type fields)) (held.held row lt valid)
      ∙ ap (λ body. 1 ∷ body) (across_parts (fields_of (map field_part fields)) 0 fields row (own_types fields)
      ∙ sym (ap (λ l. get_or l row []) e ∙ get_or-map-range_with_len (row_bytes fields) 0 (length c.slots) row row [] lt (omega arith)));
}

-- ---- cells that are made one behind the other

-- a null's cell, and that of a row that is no null
pub nil_cell : (t : ColumnType) (s : Slot) → is_nil s ≡ true → slot_bytes t s ≡ 0 ∷ []
nil_cell t Nil e = refl
nil_cell t (Num n) e = cc
nil_cell t (Bytes bytes) e = cc
nil_cell t (Items ss) e = cc

-- one cell more
pub made_more : (t : ColumnType) (slots : List Slot) (row : ℕ) (made new : ColumnValue) (cell : List ℕ) → row < length slots
    → made_cells made ≡ map (slot_bytes t) (take row slots) → new ≡ pushed made (Bytes cell) → cell ≡ slot_bytes t (slot_at slots row)
    → made_cells new ≡ map (slot_bytes t) (take (row + 1) slots)
made_more t slots row made new cell lt sofar more is =
    ap made_cells more
    ∙ map-append bytes_held made.slots (Bytes cell ∷ [])
    ∙ ap (λ cells. cells ++ cell ∷ []) sofar
    ∙ ap (λ c. map (slot_bytes t) (take row slots) ++ c ∷ []) is
    ∙ sym (map-append (slot_bytes t) (take row slots) (slot_at slots row ∷ []))
    ∙ ap (map (slot_bytes t)) (sym (take_more slots row Nil lt))

-- ---- whether a slot is a null

pub not_true : (b : Bool) → not b ≡ true → b ≡ false
not_true true e = cc
not_true false e = refl

pub not_false : (b : Bool) → not b ≡ false → b ≡ true
not_false true e = refl
not_false false e = cc
