-- What contracts see of a column of any flat type, and the types that such columns have.
use Rattle.std.specs.Prelude.{Bool, true, false, is_some, IsSome, IsTrue}
use Rattle.gb_base.specs.declared.data_type.DataType.{DataType}
use Rattle.gb_base.specs.declared.data_type.DataType.TheVariants as dtype
use Rattle.gb_defs.specs.Column.{ColumnValue}
use Rattle.gb_defs.specs.ColumnType.{ColumnType, Flat, ListOf, ArrayOf, StructOf}
use Rattle.gb_flat_series.specs.declared.series.FlatSeries.{FlatSeries}
use Rattle.gb_flat_series.specs.declared.series.FlatSeries.TheVariants.{Null, Boolean, UInt8, UInt16, UInt32, UInt64, Int8, Int16, Int32, Int64, Int128, Decimal, Date, Datetime, Duration, Time, String, Binary, BinaryOffset, Categorical}

abbrev pub column_of : FlatSeries → ColumnValue
column_of (Null c) = c
column_of (Boolean c) = c
column_of (UInt8 c) = c
column_of (UInt16 c) = c
column_of (UInt32 c) = c
column_of (UInt64 c) = c
column_of (Int8 c) = c
column_of (Int16 c) = c
column_of (Int32 c) = c
column_of (Int64 c) = c
column_of (Int128 c) = c
column_of (Decimal c) = c
column_of (Date c) = c
column_of (Datetime c) = c
column_of (Duration c) = c
column_of (Time c) = c
column_of (String c) = c
column_of (Binary c) = c
column_of (BinaryOffset c) = c
column_of (Categorical c) = c

-- a column of the type is made by the type alone: of all flat types but categories, whose texts make it; a decimal
-- type has its scale
abbrev pub HasColumn : DataType → Type 0
HasColumn (dtype.Categorical map ordering) = ⊥
HasColumn (dtype.Enum map ordering) = ⊥
HasColumn (dtype.Decimal precision scale) = IsSome scale
HasColumn (dtype.List' room inner) = ⊥
HasColumn (dtype.Array' room inner width) = ⊥
HasColumn (dtype.Struct' room row) = ⊥
HasColumn _ = Unit {0}

-- whether nulls are made by the type alone, of each flat type: a category type has its texts, a decimal type its
-- scale
abbrev pub has_nulls : DataType → Bool
has_nulls (dtype.Categorical map ordering) = is_some map
has_nulls (dtype.Enum map ordering) = is_some map
has_nulls (dtype.Decimal precision scale) = is_some scale
has_nulls (dtype.List' room inner) = false
has_nulls (dtype.Array' room inner width) = false
has_nulls (dtype.Struct' room row) = false
has_nulls _ = true

abbrev pub HasNulls : DataType → Type 0
HasNulls t = IsTrue (has_nulls t)

-- a type that holds no others: only its slots have an order
abbrev pub IsFlat : ColumnType → Type 0
IsFlat (Flat t) = Unit {0}
IsFlat (ListOf t) = ⊥
IsFlat (ArrayOf t width) = ⊥
IsFlat (StructOf fs) = ⊥
