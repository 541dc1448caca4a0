-- What a column holds is less deep than the column.
use Rattle.std.specs.Prelude.{◌≡◌, ◌≤◌, ◌+◌, ℕ, suc, max, List, [], ◌∷◌, map}
use denote.Param.Weighed.{most}
use Rattle.gb_series.specs.Structs.{struct_type}
use Rattle.std.proofs.Common.{arith, ap}
use Rattle.gb_defs.specs.Column.{ColumnValue}
use Rattle.gb_defs.specs.ColumnType.{ListOf, part_type}
use Rattle.gb_series.specs.declared.series.Series.{Series}
use Rattle.gb_series.specs.declared.series.Series.TheVariants as series
use Rattle.gb_series.specs.declared.nested.array.ArrayChunked.TheDeep.{deep-Series}
use Rattle.gb_series.specs.Arrays.{IsArray}
use Rattle.gb_series.specs.Depth.{depth}
use Rattle.gb_series.specs.Series.{value_of}

pub items_fall : (items : Series) → max (deep-Series items) 0 ≤ suc (depth (value_of items).dtype)
items_fall (series.Flat c) = omega arith
items_fall (series.List c) = omega arith
items_fall (series.Array c) = omega arith
items_fall (series.Struct c) = omega arith

pub lists_fall : (width : ℕ) (lists : ColumnValue) → IsArray width lists → max (depth lists.dtype + 1) 0 ≤ suc (suc (depth (part_type lists.dtype 0)))
lists_fall width lists h = omega (arith, ap depth h.lists_are)

fields_most : (fields : List Series) → most deep-Series fields ≤ depth (struct_type (map value_of fields))
fields_most [] = omega arith
fields_most (f ∷ fs) = omega (arith, items_fall f, fields_most fs)

pub fields_fall : (fields : List Series) → max (most deep-Series fields) 0 ≤ depth (struct_type (map value_of fields))
fields_fall fields = omega (arith, fields_most fields)
