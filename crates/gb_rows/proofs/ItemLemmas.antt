-- The cells of what lists, arrays and structs hold.
use Rattle.std.proofs.Common.{◌≡◌, ◌+◌, ◌<◌, ◌≤◌, ℕ, suc, List, [], ◌∷◌, ◌++◌, length, map, get_or, refl, ap, ◌∙◌, sym, append_assoc}
use Rattle.std.proofs.lemmas.Grind.{flat_map-append}
use Rattle.std.proofs.lemmas.List.{append-nil}
use Rattle.gb_defs.specs.ColumnType.{ColumnType, ListOf, ArrayOf}
use Rattle.gb_defs.specs.RowBytes.{parts_bytes, slot_bytes}
use Rattle.gb_defs.specs.Slices.{between}
use Rattle.gb_defs.specs.Slot.{Slot, items_of}
use Rattle.gb_rows.specs.Cells.{marked}
use Rattle.gb_rows.proofs.RangeLemmas.{between_more}

-- one cell more behind some bytes
pub item_more : (start place : ℕ) (items : List (List ℕ)) (mark old now : List ℕ) → start ≤ place → place < length items → now ≡ old ++ marked mark (between start place items)
    → (now ++ mark) ++ get_or items place [] ≡ old ++ marked mark (between start (place + 1) items)
item_more start place items mark old now low lt e =
    let cell = get_or items place [] in
    let some = between start place items in
    let front = marked mark some in
    ap (λ l. (l ++ mark) ++ cell) e
    ∙ append_assoc (old ++ front) mark cell
    ∙ append_assoc old front (mark ++ cell)
    ∙ ap (λ l. old ++ (front ++ l)) (sym (append-nil (mark ++ cell)))
    ∙ ap (λ l. old ++ l) (sym (flat_map-append (λ c. mark ++ c) some (cell ∷ [])))
    ∙ ap (λ l. old ++ marked mark l) (sym (between_more start place items [] low lt))

-- the parts of a list, and of an array
pub list_parts : (t : ColumnType) (k : ℕ) (slots : List Slot) → parts_bytes (ListOf t) k (items_of slots) ≡ marked (1 ∷ []) (map (slot_bytes t) slots) ++ 0 ∷ []
list_parts t k [] = refl
list_parts t k (s ∷ slots) =
    ap (λ rest. 1 ∷ (slot_bytes t s ++ rest)) (list_parts t (suc k) slots) ∙ ap (λ bytes. 1 ∷ bytes) (sym (append_assoc (slot_bytes t s) (marked (1 ∷ []) (map (slot_bytes t) slots)) (0 ∷ [])))

pub array_parts : (t : ColumnType) (width k : ℕ) (slots : List Slot) → parts_bytes (ArrayOf t width) k (items_of slots) ≡ marked [] (map (slot_bytes t) slots)
array_parts t width k [] = refl
array_parts t width k (s ∷ slots) = ap (λ rest. slot_bytes t s ++ rest) (array_parts t width (suc k) slots)
