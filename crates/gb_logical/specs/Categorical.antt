-- Columns of codes that stand for texts.
use Rattle.std.specs.Prelude.{◌≡◌, ℕ, Bool, true, false, List, length, Some}
use Rattle.std.specs.List.{All}
use Rattle.gb_defs.specs.Column.{ColumnValue, UsesCodes}
use Rattle.gb_defs.specs.ColumnType.{CategoricalOrdering, ColumnType, FlatType, Categorical, Enum, Flat, uint32}
use Rattle.gb_defs.specs.Order.{is_lexical}
use Rattle.gb_cols.specs.Codes.{IsCodeBelow}

-- the type of categories, or of an enum, with these texts
abbrev pub category_type : Bool → List (List ℕ) → CategoricalOrdering → FlatType
category_type true texts ordering = Enum (Some texts) ordering
category_type false texts ordering = Categorical (Some texts) ordering

-- the column of codes as one of a category type
abbrev pub coded_as : ColumnType → Bool → ColumnValue → ColumnValue
coded_as t all_used codes =
    record { name = codes.name; dtype = t; slots = codes.slots; chunks = codes.chunks; sorted = codes.sorted; all_used = all_used }

-- a column of codes of these texts, all of which occur where that is said
pub record AreCodesOf (texts : List (List ℕ)) (codes : ColumnValue) (all_used : Bool) : Type 0 where
  pub typed : codes.dtype ≡ uint32
  pub below : All (IsCodeBelow (length texts)) codes.slots
  pub used : all_used ≡ true → UsesCodes (Some texts) codes.slots

-- whether a category type is compared by its texts, where that is asked
abbrev pub is_lexical_type : ColumnType → Bool
is_lexical_type (Flat (Categorical texts ordering)) = is_lexical ordering
is_lexical_type (Flat (Enum texts ordering)) = is_lexical ordering
is_lexical_type _ = false

abbrev pub is_enum_type : ColumnType → Bool
is_enum_type (Flat (Enum texts ordering)) = true
is_enum_type _ = false
