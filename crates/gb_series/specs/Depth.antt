-- How deep a type holds others. An array is a list with a width, and so counts twice.
use Rattle.std.specs.Prelude.{ℕ, suc, max}
use Rattle.gb_defs.specs.ColumnType.{ColumnType, Fields, Flat, ListOf, ArrayOf, StructOf, NoFields, Field}

abbrev mutual
  pub depth : ColumnType → ℕ
  depth (Flat t) = 0
  depth (ListOf t) = suc (depth t)
  depth (ArrayOf t width) = suc (suc (depth t))
  depth (StructOf fs) = suc (fields_depth fs)

  pub fields_depth : Fields → ℕ
  fields_depth NoFields = 0
  fields_depth (Field name t fs) = max (depth t) (fields_depth fs)
