use Rattle.std.proofs.Common.{◌≡◌, take}
use Rattle.gb_agg.specs.Distinct.{numbered}
use Rattle.gb_agg.proofs.classes.number_rows.Given as goal

abbrev pub invariant-loop-place : goal.invariant-loop-place
invariant-loop-place g l = l.numbers ≡ numbered l.number (take l.place (g.R.GroupRows.rows l.rows)) l.fn.numbers
