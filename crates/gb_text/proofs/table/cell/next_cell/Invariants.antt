use Rattle.gb_text.proofs.PlainLemmas.{IsScanning}
use Rattle.gb_text.proofs.table.cell.next_cell.Given as goal

abbrev pub invariant-loop-i : goal.invariant-loop-i
invariant-loop-i l = IsScanning l.text l.i
