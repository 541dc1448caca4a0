-- The contexts of types, in no order.
use Rattle.std.specs.Prelude.{◌≡◌, ℕ, Bool, true, false, List, [], ◌∷◌, length, Option, None, Some, MatchOption, Vec, is_some}
use Rattle.std.specs.Global.{Global}
use Rattle.std.specs.List.{list_any}
use Rattle.gb_defs.specs.ColumnType.{ColumnType, Fields, FlatType, Flat, ListOf, ArrayOf, StructOf, NoFields, Field}
use Rattle.gb_defs.specs.ColumnType as typed
use Rattle.gb_rows.specs.declared.context.RowEncodingContext.{RowEncodingContext}
use Rattle.gb_rows.specs.declared.context.RowEncodingContext as context

-- a precision that is not known is the greatest
abbrev pub decimal_of : Option ℕ → RowEncodingContext
decimal_of None = context.Decimal 38
decimal_of (Some precision) = context.Decimal precision

abbrev pub category_count : Option (List (List ℕ)) → ℕ
category_count None = 4294967295
category_count (Some texts) = length texts

abbrev pub categories_context : Option (List (List ℕ)) → Bool → RowEncodingContext
categories_context texts is_enum = context.Categorical (record { num_known_categories = category_count texts; is_enum = is_enum; lexical_sort_idxs = None })

abbrev pub flat_context : FlatType → Option RowEncodingContext
flat_context typed.Null = None
flat_context typed.Boolean = None
flat_context (typed.Unsigned w) = None
flat_context (typed.Signed w) = None
flat_context (typed.Decimal precision scale) = Some (decimal_of precision)
flat_context typed.Date = None
flat_context typed.Time = None
flat_context (typed.Datetime unit) = None
flat_context (typed.Duration unit) = None
flat_context typed.String = None
flat_context typed.Binary = None
flat_context typed.BinaryOffset = None
flat_context (typed.Categorical texts ordering) = Some (categories_context texts false)
flat_context (typed.Enum texts ordering) = Some (categories_context texts true)

-- a struct's context has these of its fields
abbrev pub HasFields : List (Option RowEncodingContext) → RowEncodingContext → Type 0
HasFields fields made = (v : Vec (Option RowEncodingContext) Global) × (made ≡ context.Struct v) × (v.items ≡ fields)

-- a struct has a context exactly where some field has one
abbrev pub IsStructContext : List (Option RowEncodingContext) → Option RowEncodingContext → Type 0
IsStructContext fields made = MatchOption made (list_any is_some fields ≡ false) (λ one. (list_any is_some fields ≡ true) × HasFields fields one)

-- whether a type has a context, and which
abbrev mutual
  pub IsContextOf : ColumnType → Option RowEncodingContext → Type 0
  IsContextOf (Flat t) made = made ≡ flat_context t
  IsContextOf (ListOf t) made = IsContextOf t made
  IsContextOf (ArrayOf t width) made = IsContextOf t made
  IsContextOf (StructOf fs) made = (fields : List (Option RowEncodingContext)) × (AreContextsOf fs fields × IsStructContext fields made)

  -- one for each field
  pub AreContextsOf : Fields → List (Option RowEncodingContext) → Type 0
  AreContextsOf NoFields made = made ≡ []
  AreContextsOf (Field name t fs) [] = ⊥
  AreContextsOf (Field name t fs) (one ∷ made) = IsContextOf t one × AreContextsOf fs made
