use Rattle.std.proofs.Common.{length, take}
use Rattle.gb_defs.specs.Classes.{rows_below}
use Rattle.gb_agg.specs.Numbered.{HoldRows}
use Rattle.gb_agg.proofs.row_fold.fold_row_numbers.Given as goal

abbrev pub invariant-loop-row : goal.invariant-loop-row
invariant-loop-row g l =
    let numbers = l.numbers.of_rows.items in
    HoldRows (g.F.RowFold.holds l.fold) (take l.row (rows_below (length numbers))) (take l.row numbers) (length l.numbers.first.items) l.states.items
