-- Types that are compared by what they are.
use Rattle.std.proofs.Common.{arith, ◌<◌, ◌≡◌, ◌==◌, ◌↔◌, IsTrue, ℕ, Bool, true, false, not, ◌||◌, cond, if◌then◌else◌, List, Option, Some, refl, sym, ◌∙◌, ap, eq-eqb, eqb-true}
use Rattle.std.specs.Int.{w8, w16, w32, w64, w128}
use Rattle.gb_defs.specs.Column.{categories_of}
use Rattle.gb_defs.specs.ColumnType as column
use Rattle.gb_defs.specs.ColumnType.{CategoricalOrdering, Physical, Lexical, ColumnType, FlatType, Flat, ListOf, ArrayOf, StructOf, Null, Boolean, Unsigned, Signed, Decimal, Date, Time, Datetime, Duration, String, Binary, BinaryOffset, Categorical, Enum}
use Rattle.gb_logical.specs.Categorical.{is_enum_type, is_lexical_type}
use Rattle.gb_base.specs.DataType.{unit_of}
use Rattle.gb_base.specs.declared.data_type.TimeUnit.{TimeUnit}
use Rattle.gb_base.specs.declared.data_type.TimeUnit.TheVariants.{Nanoseconds, Microseconds, Milliseconds}
use Rattle.gb_flat_series.specs.FlatSeries.{IsFlat, column_of}
use Rattle.gb_flat_series.specs.Variant.{IsOfVariant, type_variant, variant_of}
use Rattle.gb_flat_series.specs.declared.series.FlatSeries.{FlatSeries}
use Rattle.gb_flat_series.specs.declared.series.FlatSeries.TheVariants as series

-- ---- types of the variants that have one type each

-- whether a variant has one type
abbrev is_plain : ℕ → Bool
is_plain n = not (n == 11 || n == 13 || n == 14 || n == 19 || n == 20)

-- the type of such a variant
abbrev plain_type : ℕ → ColumnType
plain_type n =
    if n == 0 then Flat Null else if n == 1 then Flat Boolean else if n == 2 then Flat (Unsigned w8) else if n == 3 then Flat (Unsigned w16)
    else if n == 4 then Flat (Unsigned w32) else if n == 5 then Flat (Unsigned w64) else if n == 6 then Flat (Signed w8) else if n == 7 then Flat (Signed w16)
    else if n == 8 then Flat (Signed w32) else if n == 9 then Flat (Signed w64) else if n == 10 then Flat (Signed w128) else if n == 12 then Flat Date
    else if n == 15 then Flat Time else if n == 16 then Flat String else if n == 17 then Flat Binary else Flat BinaryOffset

plain_back : (t : ColumnType) → is_plain (type_variant t) ≡ true → plain_type (type_variant t) ≡ t
plain_back (Flat Null) e = refl
plain_back (Flat Boolean) e = refl
plain_back (Flat (Unsigned w8)) e = refl
plain_back (Flat (Unsigned w16)) e = refl
plain_back (Flat (Unsigned w32)) e = refl
plain_back (Flat (Unsigned w64)) e = refl
plain_back (Flat (Unsigned w128)) e = cc
plain_back (Flat (Signed w8)) e = refl
plain_back (Flat (Signed w16)) e = refl
plain_back (Flat (Signed w32)) e = refl
plain_back (Flat (Signed w64)) e = refl
plain_back (Flat (Signed w128)) e = refl
plain_back (Flat (Decimal precision scale)) e = cc
plain_back (Flat Date) e = refl
plain_back (Flat Time) e = refl
plain_back (Flat (Datetime unit)) e = cc
plain_back (Flat (Duration unit)) e = cc
plain_back (Flat String) e = refl
plain_back (Flat Binary) e = refl
plain_back (Flat BinaryOffset) e = refl
plain_back (Flat (Categorical texts ordering)) e = cc
plain_back (Flat (Enum texts ordering)) e = cc
plain_back (ListOf t) e = cc
plain_back (ArrayOf t width) e = cc
plain_back (StructOf fs) e = cc

pub plain_same : (m n : ℕ) (t u : ColumnType) → is_plain m ≡ true → type_variant t ≡ m → type_variant u ≡ n → IsTrue (m == n) ↔ (t ≡ u)
plain_same m n t u plain at_t at_u = (
  (λ same.
      let e : type_variant t ≡ type_variant u = at_t ∙ eqb-true m n same ∙ sym at_u in
      sym (plain_back t (ap is_plain at_t ∙ plain)) ∙ ap plain_type e ∙ plain_back u (ap is_plain (sym e ∙ at_t) ∙ plain)),
  (λ e. eq-eqb m n (sym at_t ∙ ap type_variant e ∙ at_u)),
)

-- columns of two variants have two types
pub other_variant : (m n : ℕ) (t u : ColumnType) → type_variant t ≡ m → type_variant u ≡ n → (m == n) ≡ false → IsTrue false ↔ (t ≡ u)
other_variant m n t u at_t at_u other = ((λ no. cc), (λ e. sym other ∙ eq-eqb m n (sym at_t ∙ ap type_variant e ∙ at_u)))

-- ---- types with parts

decimal_parts : (p q : Option ℕ) (s r : ℕ) → Flat (Decimal p (Some s)) ≡ Flat (Decimal q (Some r)) → (p ≡ q) × (s ≡ r)
decimal_parts p q s r e = (cc, cc)

pub decimals_same : (b : Bool) (t u : ColumnType) (p q : Option ℕ) (s r : ℕ) → t ≡ Flat (Decimal p (Some s)) → u ≡ Flat (Decimal q (Some r))
    → IsTrue b ↔ ((p ≡ q) × (s ≡ r)) → IsTrue b ↔ (t ≡ u)
decimals_same b t u p q s r is_t is_u test = (
  (λ yes. let e = test.0 yes in is_t ∙ ap (λ k. Flat (Decimal k (Some s))) e.0 ∙ ap (λ k. Flat (Decimal q (Some k))) e.1 ∙ sym is_u),
  (λ e. test.1 (decimal_parts p q s r (sym is_t ∙ e ∙ is_u))),
)

datetime_part : (v w : column.TimeUnit) → Flat (Datetime v) ≡ Flat (Datetime w) → v ≡ w
datetime_part v w e = cc

pub datetimes_same : (b : Bool) (t u : ColumnType) (v w : column.TimeUnit) → t ≡ Flat (Datetime v) → u ≡ Flat (Datetime w) → IsTrue b ↔ (v ≡ w) → IsTrue b ↔ (t ≡ u)
datetimes_same b t u v w is_t is_u test =
    ((λ yes. is_t ∙ ap (λ k. Flat (Datetime k)) (test.0 yes) ∙ sym is_u), (λ e. test.1 (datetime_part v w (sym is_t ∙ e ∙ is_u))))

duration_part : (v w : column.TimeUnit) → Flat (Duration v) ≡ Flat (Duration w) → v ≡ w
duration_part v w e = cc

pub durations_same : (b : Bool) (t u : ColumnType) (v w : column.TimeUnit) → t ≡ Flat (Duration v) → u ≡ Flat (Duration w) → IsTrue b ↔ (v ≡ w) → IsTrue b ↔ (t ≡ u)
durations_same b t u v w is_t is_u test =
    ((λ yes. is_t ∙ ap (λ k. Flat (Duration k)) (test.0 yes) ∙ sym is_u), (λ e. test.1 (duration_part v w (sym is_t ∙ e ∙ is_u))))

pub unit_same : (v w : TimeUnit) → unit_of v ≡ unit_of w → v ≡ w
unit_same Nanoseconds Nanoseconds e = refl
unit_same Nanoseconds Microseconds e = cc
unit_same Nanoseconds Milliseconds e = cc
unit_same Microseconds Nanoseconds e = cc
unit_same Microseconds Microseconds e = refl
unit_same Microseconds Milliseconds e = cc
unit_same Milliseconds Nanoseconds e = cc
unit_same Milliseconds Microseconds e = cc
unit_same Milliseconds Milliseconds e = refl

-- the type of categories with these texts
abbrev with_texts : List (List ℕ) → Bool → Bool → ColumnType
with_texts texts is_enum lexical = cond is_enum (Flat (Enum (Some texts) (cond lexical Lexical Physical))) (Flat (Categorical (Some texts) (cond lexical Lexical Physical)))

made_of : (t : ColumnType) (texts : List (List ℕ)) → categories_of t ≡ Some texts → t ≡ with_texts texts (is_enum_type t) (is_lexical_type t)
made_of (Flat Null) texts e = cc
made_of (Flat Boolean) texts e = cc
made_of (Flat (Unsigned w)) texts e = cc
made_of (Flat (Signed w)) texts e = cc
made_of (Flat (Decimal precision scale)) texts e = cc
made_of (Flat Date) texts e = cc
made_of (Flat Time) texts e = cc
made_of (Flat (Datetime unit)) texts e = cc
made_of (Flat (Duration unit)) texts e = cc
made_of (Flat String) texts e = cc
made_of (Flat Binary) texts e = cc
made_of (Flat BinaryOffset) texts e = cc
made_of (Flat (Categorical known Physical)) texts e = ap (λ k. Flat (Categorical k Physical)) e
made_of (Flat (Categorical known Lexical)) texts e = ap (λ k. Flat (Categorical k Lexical)) e
made_of (Flat (Enum known Physical)) texts e = ap (λ k. Flat (Enum k Physical)) e
made_of (Flat (Enum known Lexical)) texts e = ap (λ k. Flat (Enum k Lexical)) e
made_of (ListOf t) texts e = cc
made_of (ArrayOf t width) texts e = cc
made_of (StructOf fs) texts e = cc

some_inside : {A : Type 0} (x y : A) → Some x ≡ Some y → x ≡ y
some_inside x y e = cc

module _ (t u : ColumnType) (xs ys : List (List ℕ)) (of_t : categories_of t ≡ Some xs) (of_u : categories_of u ≡ Some ys) where
  pub categories_same : is_enum_type t ≡ is_enum_type u → is_lexical_type t ≡ is_lexical_type u → xs ≡ ys → t ≡ u
  categories_same enums orders texts =
      made_of t xs of_t ∙ ap (λ ts. with_texts ts (is_enum_type t) (is_lexical_type t)) texts ∙ ap (λ b. with_texts ys b (is_lexical_type t)) enums
      ∙ ap (with_texts ys (is_enum_type u)) orders ∙ sym (made_of u ys of_u)

  pub same_categories : t ≡ u → xs ≡ ys
  same_categories e = some_inside xs ys (sym of_t ∙ ap categories_of e ∙ of_u)

-- ---- types that hold no others

not_nested : (s : FlatSeries) → variant_of s < 20
not_nested (series.Null c) = omega arith
not_nested (series.Boolean c) = omega arith
not_nested (series.UInt8 c) = omega arith
not_nested (series.UInt16 c) = omega arith
not_nested (series.UInt32 c) = omega arith
not_nested (series.UInt64 c) = omega arith
not_nested (series.Int8 c) = omega arith
not_nested (series.Int16 c) = omega arith
not_nested (series.Int32 c) = omega arith
not_nested (series.Int64 c) = omega arith
not_nested (series.Int128 c) = omega arith
not_nested (series.Decimal c) = omega arith
not_nested (series.Date c) = omega arith
not_nested (series.Datetime c) = omega arith
not_nested (series.Duration c) = omega arith
not_nested (series.Time c) = omega arith
not_nested (series.String c) = omega arith
not_nested (series.Binary c) = omega arith
not_nested (series.BinaryOffset c) = omega arith
not_nested (series.Categorical c) = omega arith

-- a column of a flat variant has a flat type
pub flat_by : (s : FlatSeries) → IsOfVariant s → IsFlat (column_of s).dtype
flat_by s is = by (column_of s).dtype is where
  by : (t : ColumnType) → type_variant t ≡ variant_of s → IsFlat t
  by (Flat t) e = tt
  by (ListOf t) e = absurd (omega (arith, e, not_nested s))
  by (ArrayOf t width) e = absurd (omega (arith, e, not_nested s))
  by (StructOf fs) e = absurd (omega (arith, e, not_nested s))
