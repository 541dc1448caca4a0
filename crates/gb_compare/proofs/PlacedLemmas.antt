-- How values compare, and columns whose slots are in the same order.
use Rattle.std.proofs.Common.{◌≡◌, ◌⊎◌, inl, inr, ℕ, suc, ℤ, Bool, false, ◌&&◌, ◌||◌, List, length, Some, refl, ap, ◌∙◌, subst, sym}
use Rattle.std.specs.Cmp.Lexicographic.{slice_cmp}
use Rattle.std.specs.List.{All}
use Rattle.std.specs.Ordering.{nat_cmp}
use Rattle.std.specs.declared.cmp.Ordering.{Ordering}
use Rattle.std.proofs.lemmas.List.Elements.{All-weaker}
use Rattle.gb_defs.specs.Column.{ColumnValue, categories_of}
use Rattle.gb_defs.specs.ColumnType.{CategoricalOrdering, Lexical, Categorical, ColumnType, Enum, Fits, Flat, FlatType, Null}
use Rattle.gb_defs.specs.Order.{ByText, OrderMode, below, numbers_below, parts_below}
use Rattle.gb_defs.specs.Slot.{Slot, Slots, Nil, Num, Bytes, Items, End, And, slot_at, slot_eq}
use Rattle.gb_logical.proofs.CategoryLemmas.{has_texts}
use Rattle.gb_cols.specs.Codes.{IsCodeBelow}
use Rattle.gb_logical.specs.Categorical.{coded_as}
use Rattle.gb_logical.specs.Logical.{StandsFor}
use Rattle.gb_values.proofs.SlotOrderLemmas.{bytes_compare, no_parts}
use Rattle.gb_compare.specs.Layout.{ComparesLike}
use Rattle.gb_compare.specs.Placed.{OrderedAs, PlacedAs, placed_below, text_type}

-- bytes are in the order that std compares them in
pub bytes_ordered : (t : ColumnType) (a b : List ℕ) (order : Ordering) → order ≡ slice_cmp nat_cmp a b → OrderedAs t (Bytes a) (Bytes b) order
bytes_ordered t a b order is = let compares = bytes_compare t a b order is in record { less = compares.less; greater = compares.greater }

-- how two slots of a column compare is how those of one like it do
pub placed_like : (c other : ColumnValue) (nulls_last : Bool) (i j : ℕ) (order : Ordering) → ComparesLike c other
    → PlacedAs other.dtype nulls_last (slot_at other.slots i) (slot_at other.slots j) order → PlacedAs c.dtype nulls_last (slot_at c.slots i) (slot_at c.slots j) order
placed_like c other nulls_last i j order like placed =
    let here = subst (λ (ss : List Slot). PlacedAs other.dtype nulls_last (slot_at ss i) (slot_at ss j) order) like.slots placed in
    let a = slot_at c.slots i in
    let b = slot_at c.slots j in
    record { less = here.less ∙ like.placed nulls_last a b; greater = here.greater ∙ like.placed nulls_last b a }

-- ---- types whose numbers are in the same order

parts_alike : (mode : OrderMode) (f g : FlatType) (k : ℕ) (a b : Slots) → parts_below mode (Flat f) k a b ≡ parts_below mode (Flat g) k a b
parts_alike mode f g k End End = refl
parts_alike mode f g k End (And b bs) = refl
parts_alike mode f g k (And a as') End = refl
parts_alike mode f g k (And a as') (And b bs) = ap (λ rest. below mode (Flat Null) a b || (slot_eq a b && rest)) (parts_alike mode f g (suc k) as' bs)

module _ (f g : FlatType) (alike : (a b : ℤ) → numbers_below ByText (Flat f) a b ≡ numbers_below ByText (Flat g) a b) where
  below_alike : (nulls_last : Bool) (a b : Slot) → placed_below nulls_last (Flat f) a b ≡ placed_below nulls_last (Flat g) a b
  below_alike nulls_last Nil Nil = refl
  below_alike nulls_last Nil (Num b) = refl
  below_alike nulls_last Nil (Bytes b) = refl
  below_alike nulls_last Nil (Items b) = refl
  below_alike nulls_last (Num a) Nil = refl
  below_alike nulls_last (Num a) (Num b) = alike a b
  below_alike nulls_last (Num a) (Bytes b) = refl
  below_alike nulls_last (Num a) (Items b) = refl
  below_alike nulls_last (Bytes a) Nil = refl
  below_alike nulls_last (Bytes a) (Num b) = refl
  below_alike nulls_last (Bytes a) (Bytes b) = refl
  below_alike nulls_last (Bytes a) (Items b) = refl
  below_alike nulls_last (Items a) Nil = refl
  below_alike nulls_last (Items a) (Num b) = refl
  below_alike nulls_last (Items a) (Bytes b) = refl
  below_alike nulls_last (Items a) (Items b) = parts_alike ByText f g 0 a b

  pub columns_alike : (c other : ColumnValue) → other.slots ≡ c.slots → other.dtype ≡ Flat f → c.dtype ≡ Flat g → ComparesLike c other
  columns_alike c other same other_typed typed =
      let placed : (nulls_last : Bool) (a b : Slot) → placed_below nulls_last other.dtype a b ≡ placed_below nulls_last c.dtype a b =
      λ nulls_last a b.
      ap (λ t. placed_below nulls_last t a b) other_typed ∙ below_alike nulls_last a b ∙ ap (λ t. placed_below nulls_last t a b) (sym typed) in
      record { slots = same; placed = placed }

-- a column of numbers is like one of a type that they stand for
pub like_meant : (c stored : ColumnValue) (f g : FlatType) → StandsFor f g → stored.slots ≡ c.slots → stored.dtype ≡ Flat f → c.dtype ≡ Flat g → ComparesLike c stored
like_meant c stored f g stands same stored_typed typed = columns_alike f g (λ a b. sym (stands.ordered ByText a b)) c stored same stored_typed typed

-- ---- codes and their texts

-- a type of categories, or of an enum, with these texts
abbrev IsOfTexts : List (List ℕ) → ColumnType → Type 0
IsOfTexts texts t = (ordering : CategoricalOrdering) × ((t ≡ Flat (Categorical (Some texts) ordering)) ⊎ (t ≡ Flat (Enum (Some texts) ordering)))

like_type : (texts : List (List ℕ)) (c codes : ColumnValue) → codes.slots ≡ c.slots → IsOfTexts texts c.dtype → ComparesLike c (coded_as (text_type texts) false codes)
like_type texts c codes same (ordering, inl e) =
    columns_alike (Categorical (Some texts) Lexical) (Categorical (Some texts) ordering) (λ m n. refl) c (coded_as (text_type texts) false codes) same refl e
like_type texts c codes same (ordering, inr e) =
    columns_alike (Categorical (Some texts) Lexical) (Enum (Some texts) ordering) (λ m n. refl) c (coded_as (text_type texts) false codes) same refl e

-- codes with their texts are like the column of them
pub like_texts : (texts : List (List ℕ)) (c codes : ColumnValue) → codes.slots ≡ c.slots → categories_of c.dtype ≡ Some texts → ComparesLike c (coded_as (text_type texts) false codes)
like_texts texts c codes same known = like_type texts c codes same (has_texts c.dtype texts known)

in_categories : (texts : List (List ℕ)) (ordering : CategoricalOrdering) (slot : Slot) → Fits (Flat (Categorical (Some texts) ordering)) slot → IsCodeBelow (length texts) slot
in_categories texts ordering Nil fits = tt
in_categories texts ordering (Num n) fits = fits.1
in_categories texts ordering (Bytes bs) fits = absurd fits
in_categories texts ordering (Items parts) fits = absurd (no_parts (Categorical (Some texts) ordering) 0 parts fits)

in_enum : (texts : List (List ℕ)) (ordering : CategoricalOrdering) (slot : Slot) → Fits (Flat (Enum (Some texts) ordering)) slot → IsCodeBelow (length texts) slot
in_enum texts ordering Nil fits = tt
in_enum texts ordering (Num n) fits = fits.1
in_enum texts ordering (Bytes bs) fits = absurd fits
in_enum texts ordering (Items parts) fits = absurd (no_parts (Enum (Some texts) ordering) 0 parts fits)

all_below : (texts : List (List ℕ)) (t : ColumnType) (slots : List Slot) → IsOfTexts texts t → All (Fits t) slots → All (IsCodeBelow (length texts)) slots
all_below texts t slots (ordering, inl e) fits =
    All-weaker (Fits (Flat (Categorical (Some texts) ordering))) (IsCodeBelow (length texts)) (in_categories texts ordering) slots
    (subst (λ (u : ColumnType). All (Fits u) slots) e fits)
all_below texts t slots (ordering, inr e) fits =
    All-weaker (Fits (Flat (Enum (Some texts) ordering))) (IsCodeBelow (length texts)) (in_enum texts ordering) slots
    (subst (λ (u : ColumnType). All (Fits u) slots) e fits)

-- every code of a type with texts has one
pub codes_below : (texts : List (List ℕ)) (t : ColumnType) (slots : List Slot) → categories_of t ≡ Some texts → All (Fits t) slots → All (IsCodeBelow (length texts)) slots
codes_below texts t slots known fits = all_below texts t slots (has_texts t texts known) fits
