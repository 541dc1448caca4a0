use Rattle.std.proofs.Common.{ℕ, List, [], take}
use Rattle.gb_defs.specs.Text.{row_cells}
use Rattle.gb_text.specs.Text.{HasBegun, contents_of}
use Rattle.gb_text.proofs.text.put_row.Given as goal

abbrev pub invariant-loop-column : goal.invariant-loop-column
invariant-loop-column l = (before : List ℕ) → HasBegun l.fn.writer before [] → HasBegun l.writer before (row_cells l.null_word (contents_of (take l.column-index l.columns)) l.row)
