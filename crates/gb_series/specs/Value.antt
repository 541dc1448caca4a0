-- The names under which the values of a series are told.
use Rattle.gb_base.specs.declared.any_value.AnyValue.{AnyValue}
use Rattle.gb_base.specs.declared.any_value.AnyValue.TheVariants as any
use Rattle.gb_flat_series.specs.Value.{IsNamedFor as IsNamedForFlat}
use Rattle.gb_series.specs.declared.series.Series.{Series}
use Rattle.gb_series.specs.declared.series.Series.TheVariants.{Flat, List, Array, Struct}

abbrev pub IsItemsOrNull : AnyValue → Type 0
IsItemsOrNull any.Null = Unit {0}
IsItemsOrNull (any.Items' room row) = Unit {0}
IsItemsOrNull value = ⊥

-- a value bears the name of the column's type, unless it is null
abbrev pub IsNamedFor : Series → AnyValue → Type 0
IsNamedFor (Flat c) = IsNamedForFlat c
IsNamedFor (List c) = IsItemsOrNull
IsNamedFor (Array c) = IsItemsOrNull
IsNamedFor (Struct c) = IsItemsOrNull
