-- What a type that holds others stands for.
use Rattle.std.proofs.Common.{◌≡◌, ℕ, map, Vec, Global, refl, ap, rules}
use Rattle.std.specs.declared.boxed.Box.{Box}
use Rattle.gb_defs.specs.ColumnType as column
use Rattle.gb_base.specs.PlSmallStr.{name_of}
use Rattle.gb_base.specs.DataType.{type_of, part_of, fields_of, row_fields}
use Rattle.gb_base.specs.declared.field.Field.{Field}
use Rattle.gb_base.specs.declared.data_type.DataType as dtype
use Rattle.gb_base.specs.declared.data_type.DataType.{DataType, Row_of-Field, end_of-Field, more_of-Field, items-the_row-Field, the_lemmas}

row_fields_listed : (count : _) (row : Row_of-Field count) → row_fields row ≡ fields_of (map part_of (items-the_row-Field count row))
row_fields_listed _ end_of-Field = refl
row_fields_listed _ (more_of-Field name inner row) = ap (column.Field (name_of name) (type_of inner)) (row_fields_listed _ row)

pub list_type : (inner : Box DataType Global) → type_of (dtype.List inner) ≡ column.ListOf (type_of inner.value)
list_type inner = search (rules, the_lemmas)

pub array_type : (inner : Box DataType Global) (width : ℕ) → type_of (dtype.Array inner width) ≡ column.ArrayOf (type_of inner.value) width
array_type inner width = search (rules, the_lemmas)

pub struct_type : (fields : Vec Field Global) → type_of (dtype.Struct fields) ≡ column.StructOf (fields_of (map part_of fields.items))
struct_type fields = search (rules, the_lemmas, row_fields_listed)
