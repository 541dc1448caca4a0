-- The names under which the values of a series are told.
use Rattle.gb_base.specs.declared.any_value.AnyValue.{AnyValue}
use Rattle.gb_base.specs.declared.any_value.AnyValue.TheVariants as any
use Rattle.gb_flat_series.specs.declared.series.FlatSeries.{FlatSeries}
use Rattle.gb_flat_series.specs.declared.series.FlatSeries.TheVariants.{Null, Boolean, UInt8, UInt16, UInt32, UInt64, Int8, Int16, Int32, Int64, Int128, Decimal, Date, Datetime, Duration, Time, String, Binary, BinaryOffset, Categorical}

-- a value bears the name of the column's type, unless it is null
abbrev pub IsNamedFor : FlatSeries → AnyValue → Type 0
IsNamedFor series any.Null = Unit {0}
IsNamedFor (Boolean c) (any.Boolean flag) = Unit {0}
IsNamedFor (UInt8 c) (any.UInt8 n) = Unit {0}
IsNamedFor (UInt16 c) (any.UInt16 n) = Unit {0}
IsNamedFor (UInt32 c) (any.UInt32 n) = Unit {0}
IsNamedFor (UInt64 c) (any.UInt64 n) = Unit {0}
IsNamedFor (Int8 c) (any.Int8 n) = Unit {0}
IsNamedFor (Int16 c) (any.Int16 n) = Unit {0}
IsNamedFor (Int32 c) (any.Int32 n) = Unit {0}
IsNamedFor (Int64 c) (any.Int64 n) = Unit {0}
IsNamedFor (Int128 c) (any.Int128 n) = Unit {0}
IsNamedFor (Decimal c) (any.Decimal n) = Unit {0}
IsNamedFor (Date c) (any.Date n) = Unit {0}
IsNamedFor (Datetime c) (any.Datetime n) = Unit {0}
IsNamedFor (Duration c) (any.Duration n) = Unit {0}
IsNamedFor (Time c) (any.Time n) = Unit {0}
IsNamedFor (String c) (any.String text) = Unit {0}
IsNamedFor (Binary c) (any.Binary bytes) = Unit {0}
IsNamedFor (BinaryOffset c) (any.Binary bytes) = Unit {0}
IsNamedFor (Categorical c) (any.Category code) = Unit {0}
IsNamedFor series value = ⊥

abbrev pub IsTextOrNull : AnyValue → Type 0
IsTextOrNull any.Null = Unit {0}
IsTextOrNull (any.String text) = Unit {0}
IsTextOrNull value = ⊥

abbrev pub IsBytesOrNull : AnyValue → Type 0
IsBytesOrNull any.Null = Unit {0}
IsBytesOrNull (any.Binary bytes) = Unit {0}
IsBytesOrNull value = ⊥
