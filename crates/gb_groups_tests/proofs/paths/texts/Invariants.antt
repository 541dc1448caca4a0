use Rattle.std.proofs.Common.{◌≡◌, length}
use Rattle.gb_defs.specs.ColumnType.{Flat, String}
use Rattle.gb_groups_tests.proofs.paths.texts.Given as goal

abbrev pub invariant-loop-text : goal.invariant-loop-text
invariant-loop-text l = (length l.column.slots ≡ l.text-index) × (l.column.dtype ≡ Flat String)
