-- Cells of numbers that two types share.
use Rattle.std.proofs.Common.{◌≡◌, ℕ, ℤ, suc, List, ◌∷◌, [], ◌++◌, map, Some, inl, inr, refl, ap, sym, ◌∙◌}
use Rattle.std.specs.Int.{w32}
use Rattle.gb_defs.specs.Column.{ColumnValue, categories_of}
use Rattle.gb_defs.specs.ColumnType.{Categorical, ColumnType, Enum, Flat, FlatType, Null, Unsigned, uint32}
use Rattle.gb_defs.specs.RowBytes.{number_bytes, parts_bytes, slot_body, slot_bytes, slot_mark}
use Rattle.gb_defs.specs.Slot.{And, Bytes, End, Items, Nil, Num, Slot, Slots}
use Rattle.gb_logical.proofs.CategoryLemmas.{has_texts}
use Rattle.gb_logical.specs.Categorical.{coded_as}
use Rattle.gb_logical.specs.Logical.{typed_as}
use Rattle.gb_rows.specs.Cells.{cells_of}

module _ (t u : FlatType) (alike : (n : ℤ) → number_bytes t n ≡ number_bytes u n) where
  parts_alike : (k : ℕ) (ss : Slots) → parts_bytes (Flat t) k ss ≡ parts_bytes (Flat u) k ss
  parts_alike k End = refl
  parts_alike k (And s ss) = ap (λ rest. (slot_mark s ∷ slot_body (Flat Null) s) ++ rest) (parts_alike (suc k) ss)

  slot_alike : (s : Slot) → slot_bytes (Flat t) s ≡ slot_bytes (Flat u) s
  slot_alike Nil = refl
  slot_alike (Num n) = ap (λ bytes. 1 ∷ bytes) (alike n)
  slot_alike (Bytes bytes) = refl
  slot_alike (Items ss) = ap (λ bytes. 1 ∷ bytes) (parts_alike 0 ss)

  cells_alike : (slots : List Slot) → map (slot_bytes (Flat t)) slots ≡ map (slot_bytes (Flat u)) slots
  cells_alike [] = refl
  cells_alike (s ∷ slots) = ap (λ cell. cell ∷ map (slot_bytes (Flat t)) slots) (slot_alike s) ∙ ap (λ cells. slot_bytes (Flat u) s ∷ cells) (cells_alike slots)

-- the cells of categories are those of their codes
code_cells : (t : ColumnType) (texts : List (List ℕ)) → categories_of t ≡ Some texts → (slots : List Slot) → map (slot_bytes t) slots ≡ map (slot_bytes uint32) slots
code_cells t texts e slots =
    let (ordering, which) = has_texts t texts e in
    elim which [
      | inl same ↦ ap (λ u. map (slot_bytes u) slots) same ∙ cells_alike (Categorical (Some texts) ordering) (Unsigned w32) (λ n. refl) slots
      | inr same ↦ ap (λ u. map (slot_bytes u) slots) same ∙ cells_alike (Enum (Some texts) ordering) (Unsigned w32) (λ n. refl) slots
    ]

-- a column of numbers under another type
pub typed_cells : (c p : ColumnValue) (t u : FlatType) → c ≡ typed_as c.dtype p → c.dtype ≡ Flat t → p.dtype ≡ Flat u → ((n : ℤ) → number_bytes t n ≡ number_bytes u n) → cells_of c ≡ cells_of p
typed_cells c p t u column typed stored alike =
    ap (λ d. map (slot_bytes d) c.slots) typed ∙ ap (map (slot_bytes (Flat t))) (ap (λ (v : ColumnValue). v.slots) column) ∙ cells_alike t u alike p.slots ∙ ap (λ d. map (slot_bytes d) p.slots) (sym stored)

-- a column of codes under a type of categories
pub coded_cells : (c p : ColumnValue) (texts : List (List ℕ)) → c ≡ coded_as c.dtype c.all_used p → categories_of c.dtype ≡ Some texts → p.dtype ≡ uint32 → cells_of c ≡ cells_of p
coded_cells c p texts column known stored =
    ap (map (slot_bytes c.dtype)) (ap (λ (v : ColumnValue). v.slots) column) ∙ code_cells c.dtype texts known p.slots ∙ ap (λ d. map (slot_bytes d) p.slots) (sym stored)
