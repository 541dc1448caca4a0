-- The columns of a table so far: as they were built, or with the codes of their texts.
use Rattle.std.specs.Prelude.{None, true}
use Rattle.gb_defs.specs.Column.{ColumnValue}
use Rattle.gb_defs.specs.ColumnType.{CategoricalOrdering, Categorical, Flat}
use Rattle.gb_logical.specs.Logical.{typed_as}
use Rattle.gb_text.specs.Building.{Building}
use Rattle.gb_text.specs.declared.table.grown.GrownCells.{GrownCells}
use Rattle.gb_text.specs.declared.table.grown.GrownCells.TheVariants.{Built, Coded}

-- codes of texts that are kept
abbrev pub kept_codes : ColumnValue → Building
kept_codes codes = record { keeps = true; column = codes }

-- the column so far
abbrev pub grown_in : GrownCells → Building
grown_in (Built column) = column
grown_in (Coded codes) = kept_codes codes

-- texts that are to become categories, as they are kept
abbrev pub categories_in : CategoricalOrdering → ColumnValue → Building
categories_in ordering texts = record { keeps = true; column = typed_as (Flat (Categorical None ordering)) texts }
