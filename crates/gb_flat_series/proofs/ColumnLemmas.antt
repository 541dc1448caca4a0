-- No series has a type that holds others.
use Rattle.std.proofs.Common.{ℕ, Vec, Global, rules}
use Rattle.std.specs.declared.boxed.Box.{Box}
use Rattle.gb_base.specs.declared.field.Field.{Field}
use Rattle.gb_base.specs.declared.data_type.DataType as dtype
use Rattle.gb_base.specs.declared.data_type.DataType.{DataType, the_lemmas}
use Rattle.gb_flat_series.specs.FlatSeries.{HasColumn, HasNulls}

pub no_list : (inner : Box DataType Global) → HasColumn (dtype.List inner) → ⊥
no_list inner = search (rules, the_lemmas)

pub no_array : (inner : Box DataType Global) (width : ℕ) → HasColumn (dtype.Array inner width) → ⊥
no_array inner width = search (rules, the_lemmas)

pub no_struct : (fields : Vec Field Global) → HasColumn (dtype.Struct fields) → ⊥
no_struct fields = search (rules, the_lemmas)

pub no_nulls_in_list : (inner : Box DataType Global) → HasNulls (dtype.List inner) → ⊥
no_nulls_in_list inner = search (rules, the_lemmas)

pub no_nulls_in_array : (inner : Box DataType Global) (width : ℕ) → HasNulls (dtype.Array inner width) → ⊥
no_nulls_in_array inner width = search (rules, the_lemmas)

pub no_nulls_in_struct : (fields : Vec Field Global) → HasNulls (dtype.Struct fields) → ⊥
no_nulls_in_struct fields = search (rules, the_lemmas)
