-- What a type stands for in the definitions.
use Rattle.std.specs.Prelude.{ℕ, List, [], ◌∷◌, Option, option_map}
use Rattle.std.specs.Arc.{arc_value}
use Rattle.std.specs.declared.sync.Arc.{Arc}
use Rattle.std.specs.Global.{Global}
use Rattle.std.specs.Int.{w8, w16, w32, w64, w128}
use Rattle.gb_defs.specs.ColumnType as column
use Rattle.gb_base.specs.PlSmallStr.{name_of}
use Rattle.gb_base.specs.declared.field.Field.{Field}
use Rattle.gb_base.specs.declared.data_type.TimeUnit.{TimeUnit}
use Rattle.gb_base.specs.declared.data_type.TimeUnit.TheVariants.{Nanoseconds, Microseconds, Milliseconds}
use Rattle.gb_base.specs.declared.data_type.CategoricalOrdering.{CategoricalOrdering}
use Rattle.gb_base.specs.declared.data_type.CategoricalOrdering.TheVariants.{Physical, Lexical}
use Rattle.gb_base.specs.declared.data_type.DataType.{DataType, Row_of-Field, end_of-Field, more_of-Field}
use Rattle.gb_base.specs.declared.data_type.DataType.TheVariants.{Null, Boolean, UInt8, UInt16, UInt32, UInt64, Int8, Int16, Int32, Int64, Int128, Decimal, Date, Datetime, Duration, Time, String, Binary, BinaryOffset, Categorical, Enum, List', Array', Struct'}

abbrev pub unit_of : TimeUnit → column.TimeUnit
unit_of Nanoseconds = column.Nanoseconds
unit_of Microseconds = column.Microseconds
unit_of Milliseconds = column.Milliseconds

abbrev pub ordering_of : CategoricalOrdering → column.CategoricalOrdering
ordering_of Physical = column.Physical
ordering_of Lexical = column.Lexical

-- the texts of a category type, where they are known
abbrev pub texts_of : Option (Arc (List (List ℕ)) Global) → Option (List (List ℕ))
texts_of map = option_map arc_value map

abbrev mutual
  pub type_of : DataType → column.ColumnType
  type_of Null = column.Flat column.Null
  type_of Boolean = column.Flat column.Boolean
  type_of UInt8 = column.Flat (column.Unsigned w8)
  type_of UInt16 = column.Flat (column.Unsigned w16)
  type_of UInt32 = column.Flat (column.Unsigned w32)
  type_of UInt64 = column.Flat (column.Unsigned w64)
  type_of Int8 = column.Flat (column.Signed w8)
  type_of Int16 = column.Flat (column.Signed w16)
  type_of Int32 = column.Flat (column.Signed w32)
  type_of Int64 = column.Flat (column.Signed w64)
  type_of Int128 = column.Flat (column.Signed w128)
  type_of (Decimal precision scale) = column.Flat (column.Decimal precision scale)
  type_of Date = column.Flat column.Date
  type_of (Datetime unit) = column.Flat (column.Datetime (unit_of unit))
  type_of (Duration unit) = column.Flat (column.Duration (unit_of unit))
  type_of Time = column.Flat column.Time
  type_of String = column.text
  type_of Binary = column.Flat column.Binary
  type_of BinaryOffset = column.Flat column.BinaryOffset
  type_of (Categorical map ordering) = column.Flat (column.Categorical (texts_of map) (ordering_of ordering))
  type_of (Enum map ordering) = column.Flat (column.Enum (texts_of map) (ordering_of ordering))
  type_of (List' room inner) = column.ListOf (type_of inner)
  type_of (Array' room inner width) = column.ArrayOf (type_of inner) width
  type_of (Struct' room row) = column.StructOf (row_fields row)

  -- the parts that a struct's type holds
  pub row_fields : {count : _} → Row_of-Field count → column.Fields
  row_fields end_of-Field = column.NoFields
  row_fields (more_of-Field name dtype row) = column.Field (name_of name) (type_of dtype) (row_fields row)

-- a part, by its name and its type
abbrev pub part_of : Field → List ℕ × column.ColumnType
part_of field = (name_of field.name, type_of field.dtype)

-- the parts, from a list of them
abbrev pub fields_of : List (List ℕ × column.ColumnType) → column.Fields
fields_of [] = column.NoFields
fields_of (part ∷ parts) = column.Field part.0 part.1 (fields_of parts)
