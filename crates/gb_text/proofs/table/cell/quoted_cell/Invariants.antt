use Rattle.gb_text.proofs.PlainLemmas.{IsWithin}
use Rattle.gb_text.proofs.table.cell.quoted_cell.Given as goal

abbrev pub invariant-loop-i : goal.invariant-loop-i
invariant-loop-i l = IsWithin l.body l.i
