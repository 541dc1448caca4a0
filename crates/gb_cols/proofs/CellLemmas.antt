-- A column with a cell more: the null word, and any other cell.
use Rattle.std.proofs.Common.{◌≡◌, ℕ, List, true, false, Some, option_map}
use Rattle.std.specs.Str.{bytes_eq}
use Rattle.gb_defs.specs.Cell.{cell_slot, value_of_field}
use Rattle.gb_defs.specs.Column.{ColumnValue}
use Rattle.gb_defs.specs.Slot.{Nil}
use Rattle.gb_cols.specs.Column.{column_with, pushed}

module _ (null_word cell : List ℕ) (c : ColumnValue) where
  pub null_cell : bytes_eq cell null_word ≡ true → column_with null_word c cell ≡ Some (pushed c Nil)
  unfolding cell_slot
  null_cell e = rw e

  pub value_cell : bytes_eq cell null_word ≡ false → column_with null_word c cell ≡ option_map (pushed c) (value_of_field c.dtype cell)
  unfolding cell_slot
  value_cell e = rw e
