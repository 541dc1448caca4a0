-- Rows by their keys, as groups or as numbers.
use Rattle.std.specs.Prelude.{◌≡◌, ℕ, Bool, true, length}
use Rattle.gb_defs.specs.Groups.{Grouping}
use Rattle.gb_defs.specs.Path.{path_groups}
use Rattle.gb_defs.specs.Rows.{Rows}
use Rattle.gb_base.specs.Pool.{partitions_of}
use Rattle.gb_base.specs.declared.pool.Pool.{Pool}
use Rattle.gb_groups.specs.GroupsType.{groups_of}
use Rattle.gb_paths.specs.Numbering.{numbered}
use Rattle.gb_paths.specs.Tuples.{key_path_value}
use Rattle.gb_paths.specs.declared.classes.Classes.{Classes}
use Rattle.gb_paths.specs.declared.classes.Classes.TheVariants.{Groups, Numbers}
use Rattle.gb_paths.specs.declared.path.KeyPath.{KeyPath}
use Rattle.gb_paths.specs.declared.row_numbers.RowNumbers.{RowNumbers}

-- the groups, whichever way they are told
abbrev pub grouping_of : Classes → Grouping
grouping_of (Groups groups) = groups_of groups
grouping_of (Numbers numbers) = numbered numbers

-- numbers were asked for, and each of so many rows has one
pub record AreAsked (asked : Bool) (rows : ℕ) (numbers : RowNumbers) : Type 0 where
  pub wanted : asked ≡ true
  pub many : length numbers.of_rows.items ≡ rows

-- numbers are those of all rows, and come only where they are asked for
abbrev pub NumberAll : Bool → ℕ → Classes → Type 0
NumberAll asked rows (Groups groups) = Unit {0}
NumberAll asked rows (Numbers numbers) = AreAsked asked rows numbers

-- the numbers of the groups of rows by a path
pub record AreNumbersBy (path : KeyPath) (rows : Rows) (pool : Pool) (numbers : RowNumbers) : Type 0 where
  pub groups : numbered numbers ≡ path_groups (key_path_value path) rows 0 (partitions_of pool) true
  pub many : length numbers.of_rows.items ≡ rows.count
