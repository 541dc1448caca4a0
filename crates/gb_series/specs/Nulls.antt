-- The types by which alone columns of nulls are made.
use Rattle.std.specs.Prelude.{◌≡◌, ℕ, List, [], ◌∷◌, ◌&&◌, map, All, Bool, true, IsTrue, None, is_none}
use Rattle.gb_base.specs.DataType.{type_of}
use Rattle.gb_base.specs.PlSmallStr.{name_of}
use Rattle.gb_base.specs.declared.field.Field.{Field}
use Rattle.gb_base.specs.declared.data_type.DataType.{DataType, Row_of-Field, end_of-Field, more_of-Field}
use Rattle.gb_base.specs.declared.data_type.DataType.TheVariants as dtype
use Rattle.gb_defs.specs.Column.{ColumnValue, first_repeated, fresh_column}
use Rattle.gb_flat_series.specs.FlatSeries.{has_nulls as has_flat_nulls}

-- the names of a struct's parts
abbrev pub row_names : {count : _} → Row_of-Field count → List (List ℕ)
row_names end_of-Field = []
row_names (more_of-Field name dtype row) = name_of name ∷ row_names row

abbrev mutual
  -- whether nulls are made by the type alone: those of what it holds are, and no two parts of a struct have one name
  pub has_nulls : DataType → Bool
  has_nulls (dtype.List' room inner) = has_nulls inner
  has_nulls (dtype.Array' room inner width) = has_nulls inner
  has_nulls (dtype.Struct' room row) = is_none (first_repeated (row_names row)) && have_nulls row
  has_nulls t = has_flat_nulls t

  -- whether those of each part are
  pub have_nulls : {count : _} → Row_of-Field count → Bool
  have_nulls end_of-Field = true
  have_nulls (more_of-Field name dtype row) = has_nulls dtype && have_nulls row

abbrev pub HasNulls : DataType → Type 0
HasNulls t = IsTrue (has_nulls t)

-- no two parts have one name, and nulls are made by the type of each
pub record ArePartsOfNulls (fields : List Field) : Type 0 where
  pub distinct : first_repeated (map (λ f. name_of f.name) fields) ≡ None
  pub nulls : All (λ f. HasNulls f.dtype) fields

-- the column of a part, with no slots
abbrev pub empty_part : Field → ColumnValue
empty_part f = fresh_column (name_of f.name) (type_of f.dtype) []
