use Rattle.gb_text.proofs.PlainLemmas.{IsUnquoting}
use Rattle.gb_text.proofs.table.cell.unquoted_cell.Given as goal

abbrev pub invariant-loop-i : goal.invariant-loop-i
invariant-loop-i l = IsUnquoting l.body l.i l.half l.room.items
