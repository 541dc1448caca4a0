use Rattle.gb_defs.specs.Classes.{rows_below}
use Rattle.gb_paths.specs.Leaders.{same_leader}
use Rattle.gb_paths.specs.Numbering.{AreNumbersOf}
use Rattle.gb_paths.proofs.leaders.number_leaders.Given as goal

abbrev pub invariant-loop-row : goal.invariant-loop-row
invariant-loop-row l = AreNumbersOf (same_leader l.leaders) (rows_below l.row) l.first.items l.of_rows.items
