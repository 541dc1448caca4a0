-- What the cells of a column are kept as while they are read.
use Rattle.std.specs.Prelude.{◌≡◌, ℕ, Bool, true, false, List, map, Option, Some, None, replicate}
use Rattle.std.specs.Int.{w64}
use Rattle.gb_defs.specs.Column.{ColumnValue, Frame, fresh_column, rechunked}
use Rattle.gb_defs.specs.ColumnType as types
use Rattle.gb_defs.specs.Slot.{Nil}
use Rattle.gb_cols.specs.Column.{ReadsCells}
use Rattle.gb_base.specs.DataType.{ordering_of}
use Rattle.gb_flat_series.specs.FlatSeries.{HasColumn}
use Rattle.gb_logical.specs.Logical.{typed_as}
use Rattle.gb_base.specs.declared.data_type.DataType.{DataType}
use Rattle.gb_base.specs.declared.data_type.DataType.TheVariants.{Categorical}
use Rattle.gb_series.specs.Series.{value_of}
use Rattle.gb_series.specs.declared.series.Series.{Series}
use Rattle.gb_text.specs.Building.{Building}
use Rattle.gb_text.specs.declared.table.builder.Cells.{Cells}
use Rattle.gb_text.specs.declared.table.builder.Cells.TheVariants.{Slots, Texts}

-- a header can name the type: the texts of categories are not known there
abbrev pub IsNamed : DataType → Type 0
IsNamed (Categorical None ordering) = Unit {0}
IsNamed (Categorical (Some map) ordering) = ⊥
IsNamed t = HasColumn t

-- the column with the slots that its cells read as
abbrev pub slots_in : Cells → ColumnValue
slots_in (Slots c) = value_of c
slots_in (Texts texts ordering) = typed_as (types.Flat (types.Categorical None (ordering_of ordering))) texts

-- the slots are those that cells of the type read as
abbrev pub TakesCells : Cells → Type 0
TakesCells (Slots c) = ReadsCells (value_of c).dtype
TakesCells (Texts texts ordering) = texts.dtype ≡ types.text

-- whole numbers of 64 bits
abbrev pub IsOfWords : types.ColumnType → Type 0
IsOfWords (types.Flat (types.Signed w64)) = Unit {0}
IsOfWords (types.Flat (types.Unsigned w64)) = Unit {0}
IsOfWords t = ⊥

-- each cell of few digits reads as a slot, and no slot is kept
pub record PassesDigits (b : Building) : Type 0 where
  pub unkept : b.keeps ≡ false
  pub words : IsOfWords b.column.dtype

-- each text reads as a slot, and no slot is kept
pub record PassesTexts (b : Building) : Type 0 where
  pub unkept : b.keeps ≡ false
  pub texts : b.column.dtype ≡ types.text

-- the column so far: with its slots, or with no more than their number
abbrev pub built : Cells → Option ℕ → Building
built cells None = record { keeps = true; column = slots_in cells }
built cells (Some count) = record { keeps = false; column = fresh_column (slots_in cells).name (slots_in cells).dtype (replicate count Nil) }

-- the cells can be taken, and where digits or texts are passed over they may be
pub record IsBuilder (cells : Cells) (checked : Option ℕ) (passes_digits passes_texts : Bool) : Type 0 where
  pub takes : TakesCells cells
  pub passes : passes_digits ≡ true → PassesDigits (built cells checked)
  pub texts : passes_texts ≡ true → PassesTexts (built cells checked)

-- the column in one chunk
abbrev pub rechunked_of : Series → ColumnValue
rechunked_of column = rechunked (value_of column)

-- the columns, each in one chunk
abbrev pub read_in : List Series → Frame
read_in columns = map rechunked_of columns
