-- The variants of a series, and the types that each has.
use Rattle.std.specs.Prelude.{◌≡◌, ℕ}
use Rattle.std.specs.Int.{w8, w16, w32, w64, w128}
use Rattle.gb_defs.specs.ColumnType as column
use Rattle.gb_flat_series.specs.FlatSeries.{column_of}
use Rattle.gb_flat_series.specs.declared.series.FlatSeries.{FlatSeries}
use Rattle.gb_flat_series.specs.declared.series.FlatSeries.TheVariants.{Null, Boolean, UInt8, UInt16, UInt32, UInt64, Int8, Int16, Int32, Int64, Int128, Decimal, Date, Datetime, Duration, Time, String, Binary, BinaryOffset, Categorical}

-- which variant it is
abbrev pub variant_of : FlatSeries → ℕ
variant_of (Null c) = 0
variant_of (Boolean c) = 1
variant_of (UInt8 c) = 2
variant_of (UInt16 c) = 3
variant_of (UInt32 c) = 4
variant_of (UInt64 c) = 5
variant_of (Int8 c) = 6
variant_of (Int16 c) = 7
variant_of (Int32 c) = 8
variant_of (Int64 c) = 9
variant_of (Int128 c) = 10
variant_of (Decimal c) = 11
variant_of (Date c) = 12
variant_of (Datetime c) = 13
variant_of (Duration c) = 14
variant_of (Time c) = 15
variant_of (String c) = 16
variant_of (Binary c) = 17
variant_of (BinaryOffset c) = 18
variant_of (Categorical c) = 19

-- the variant whose columns have a type with no part, or a number that is no variant's
abbrev pub flat_variant : column.FlatType → ℕ
flat_variant column.Null = 0
flat_variant column.Boolean = 1
flat_variant (column.Unsigned w8) = 2
flat_variant (column.Unsigned w16) = 3
flat_variant (column.Unsigned w32) = 4
flat_variant (column.Unsigned w64) = 5
flat_variant (column.Signed w8) = 6
flat_variant (column.Signed w16) = 7
flat_variant (column.Signed w32) = 8
flat_variant (column.Signed w64) = 9
flat_variant (column.Signed w128) = 10
flat_variant (column.Decimal precision scale) = 11
flat_variant column.Date = 12
flat_variant (column.Datetime unit) = 13
flat_variant (column.Duration unit) = 14
flat_variant column.Time = 15
flat_variant column.String = 16
flat_variant column.Binary = 17
flat_variant column.BinaryOffset = 18
flat_variant (column.Categorical texts ordering) = 19
flat_variant (column.Enum texts ordering) = 19
flat_variant _ = 20

-- the same of any type
abbrev pub type_variant : column.ColumnType → ℕ
type_variant (column.Flat t) = flat_variant t
type_variant _ = 20

-- its column has a type of its variant
abbrev pub IsOfVariant : FlatSeries → Type 0
IsOfVariant series = type_variant (column_of series).dtype ≡ variant_of series
