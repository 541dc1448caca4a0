-- The variants of a series, and the types that each has.
use Rattle.std.specs.Prelude.{◌≡◌, ℕ}
use Rattle.gb_defs.specs.ColumnType as column
use Rattle.gb_series.specs.Series.{value_of}
use Rattle.gb_series.specs.declared.series.Series.{Series}
use Rattle.gb_series.specs.declared.series.Series.TheVariants.{Flat, List, Array, Struct}

-- which variant it is
abbrev pub variant_of : Series → ℕ
variant_of (Flat c) = 0
variant_of (List c) = 1
variant_of (Array c) = 2
variant_of (Struct c) = 3

-- the variant whose columns have a type
abbrev pub type_variant : column.ColumnType → ℕ
type_variant (column.Flat t) = 0
type_variant (column.ListOf t) = 1
type_variant (column.ArrayOf t width) = 2
type_variant (column.StructOf fs) = 3

-- its column has a type of its variant
abbrev pub IsOfVariant : Series → Type 0
IsOfVariant series = type_variant (value_of series).dtype ≡ variant_of series
