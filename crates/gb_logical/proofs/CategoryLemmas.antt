-- Codes of texts, as a column of their category type.
use Rattle.std.proofs.Common.{◌≡◌, ◌⊎◌, inl, inr, ℕ, ℤ, ◌<◌, Bool, true, false, List, length, Some, ap, refl}
use Rattle.std.specs.Int.{w32}
use Rattle.std.specs.List.{All}
use Rattle.std.proofs.lemmas.List.Elements.{All-drop, All-get_or, All-map, All-take, All-weaker}
use Rattle.gb_defs.specs.Column.{ColumnValue, categories_of, sliced, taken}
use Rattle.gb_defs.specs.ColumnType.{CategoricalOrdering, ColumnType, Flat, ListOf, ArrayOf, StructOf, Null, Boolean, Unsigned, Signed, Decimal, Date, Time, Datetime, Duration, String, Binary, BinaryOffset, Categorical, Enum}
use Rattle.gb_defs.specs.Slot.{Nil, slot_at}
use Rattle.gb_cols.specs.Codes.{IsCodeBelow}
use Rattle.gb_logical.specs.Categorical.{AreCodesOf, category_type}
use Rattle.gb_logical.proofs.LogicalLemmas.{OrdersAs}

pub categories_are : (texts : List (List ℕ)) (ordering : CategoricalOrdering) (is_enum : Bool) → categories_of (Flat (category_type is_enum texts ordering)) ≡ Some texts
categories_are texts ordering true = refl
categories_are texts ordering false = refl

-- a type with texts is that of categories or of an enum
pub has_texts : (t : ColumnType) (texts : List (List ℕ)) → categories_of t ≡ Some texts
    → (ordering : CategoricalOrdering) × ((t ≡ Flat (Categorical (Some texts) ordering)) ⊎ (t ≡ Flat (Enum (Some texts) ordering)))
has_texts (Flat Null) texts e = cc
has_texts (Flat Boolean) texts e = cc
has_texts (Flat (Unsigned w)) texts e = cc
has_texts (Flat (Signed w)) texts e = cc
has_texts (Flat (Decimal precision scale)) texts e = cc
has_texts (Flat Date) texts e = cc
has_texts (Flat Time) texts e = cc
has_texts (Flat (Datetime unit)) texts e = cc
has_texts (Flat (Duration unit)) texts e = cc
has_texts (Flat String) texts e = cc
has_texts (Flat Binary) texts e = cc
has_texts (Flat BinaryOffset) texts e = cc
has_texts (Flat (Categorical known ordering)) texts e = (ordering, inl (ap (λ k. Flat (Categorical k ordering)) e))
has_texts (Flat (Enum known ordering)) texts e = (ordering, inr (ap (λ k. Flat (Enum k ordering)) e))
has_texts (ListOf t) texts e = cc
has_texts (ArrayOf t width) texts e = cc
has_texts (StructOf fs) texts e = cc

not_used : {A : Type 0} → ◌≡◌ {A = Bool} false true → A
not_used e = cc

-- categories are in the order of their codes
pub codes_in_order : (texts : List (List ℕ)) (ordering : CategoricalOrdering) (is_enum : Bool) → OrdersAs (Unsigned w32) (category_type is_enum texts ordering)
codes_in_order texts ordering true = record { numbers = λ a b. refl; stored_sortable = refl; sortable = refl }
codes_in_order texts ordering false = record { numbers = λ a b. refl; stored_sortable = refl; sortable = refl }

-- what is made of codes
module _ {texts : List (List ℕ)} {codes : ColumnValue} {all_used : Bool} (are : AreCodesOf texts codes all_used) where
  pub taken_codes : (rows : List ℕ) → All (λ row. row < length codes.slots) rows → AreCodesOf texts (taken rows codes) false
  taken_codes rows inside =
      let below : (row : ℕ) → row < length codes.slots → IsCodeBelow (length texts) (slot_at codes.slots row) = λ row lt. All-get_or (IsCodeBelow (length texts)) codes.slots row Nil lt are.below in
      record {
        typed = are.typed;
        below =
            All-map (IsCodeBelow (length texts)) (slot_at codes.slots) rows
            (All-weaker (λ row. row < length codes.slots) (λ row. IsCodeBelow (length texts) (slot_at codes.slots row)) below rows inside);
        used = not_used;
      }

  pub sliced_codes : (offset : ℤ) (len : ℕ) → AreCodesOf texts (sliced offset len codes) false
  sliced_codes offset len = record {
    typed = are.typed;
    below = All-take (IsCodeBelow (length texts)) _ _ (All-drop (IsCodeBelow (length texts)) _ codes.slots are.below);
    used = not_used;
  }
