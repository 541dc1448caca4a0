-- Columns of numbers that mean something else than themselves.
use Rattle.std.specs.Prelude.{◌≡◌, ℕ, ℤ, Bool, true, false, IsTrue, Option, refl}
use Rattle.std.specs.Int.{w32, w64, w128}
use Rattle.gb_defs.specs.Column.{ColumnValue, may_be_sorted}
use Rattle.gb_defs.specs.ColumnType.{ColumnType, FlatType, Flat, FitsNumber, ListOf, ArrayOf, StructOf, Null, Signed, Decimal, Date, Time, Datetime, Duration, TimeUnit}
use Rattle.gb_defs.specs.Fold.{sum_type, wrap_flat}
use Rattle.gb_defs.specs.Hash.{hash_width}
use Rattle.gb_defs.specs.Order.{OrderMode, numbers_below}
use Rattle.gb_defs.specs.Path.{Numbers, flat_kind}
use Rattle.gb_cols.specs.Column.{unflagged}
use Rattle.gb_numbers.specs.Native.{is_wide, unworded, unwidened}

-- the type, where it has no part
abbrev pub flat_in : ColumnType → FlatType
flat_in (Flat t) = t
flat_in (ListOf t) = Null
flat_in (ArrayOf t width) = Null
flat_in (StructOf fs) = Null

-- the column as one of another type
abbrev pub typed_as : ColumnType → ColumnValue → ColumnValue
typed_as t c = record { name = c.name; dtype = t; slots = c.slots; chunks = c.chunks; sorted = c.sorted; all_used = c.all_used }

-- the column as one of a type that its numbers stand for, with no flag
abbrev pub logical_column : FlatType → ColumnValue → ColumnValue
logical_column t c = typed_as (Flat t) (unflagged c)

-- numbers of the stored type may stand for another: they fit it, are ordered as in it, are keys of numbers
-- there, as wide ones or as narrow ones, and are told by the same words
pub record StandsFor (stored t : FlatType) : Type 0 where
  pub fits : (n : ℤ) → FitsNumber stored n → FitsNumber t n
  pub ordered : (mode : OrderMode) (a b : ℤ) → numbers_below mode (Flat t) a b ≡ numbers_below mode (Flat stored) a b
  pub sortable : IsTrue (may_be_sorted (Flat t))
  pub kind : flat_kind t ≡ Numbers
  pub width : is_wide (hash_width (Flat t)) ≡ is_wide (hash_width (Flat stored))
  pub word : (n : ℕ) → unworded t n ≡ unworded stored n
  pub wide : (n : ℕ) → unwidened t n ≡ unwidened stored n

-- sums of a type are those of the stored one, and of its own type
pub record SumsAs (stored t : FlatType) : Type 0 where
  pub wraps : (s : ℤ) → wrap_flat t s ≡ wrap_flat stored s
  pub same_type : sum_type (Flat t) ≡ Flat t

-- what has no sums
pub no_sums : {stored t : FlatType} → ◌≡◌ {A = Bool} false true → SumsAs stored t
no_sums h = cc

pub date_stands : StandsFor (Signed w32) Date
date_stands = record { fits = λ n h. h; ordered = λ mode a b. refl; sortable = refl; kind = refl; width = refl; word = λ n. refl; wide = λ n. refl }

pub time_stands : StandsFor (Signed w64) Time
time_stands = record { fits = λ n h. h; ordered = λ mode a b. refl; sortable = refl; kind = refl; width = refl; word = λ n. refl; wide = λ n. refl }

pub datetime_stands : (unit : TimeUnit) → StandsFor (Signed w64) (Datetime unit)
datetime_stands unit = record { fits = λ n h. h; ordered = λ mode a b. refl; sortable = refl; kind = refl; width = refl; word = λ n. refl; wide = λ n. refl }

pub duration_stands : (unit : TimeUnit) → StandsFor (Signed w64) (Duration unit)
duration_stands unit = record { fits = λ n h. h; ordered = λ mode a b. refl; sortable = refl; kind = refl; width = refl; word = λ n. refl; wide = λ n. refl }

pub decimal_stands : (precision scale : Option ℕ) → StandsFor (Signed w128) (Decimal precision scale)
decimal_stands precision scale = record { fits = λ n h. h; ordered = λ mode a b. refl; sortable = refl; kind = refl; width = refl; word = λ n. refl; wide = λ n. refl }
