use Rattle.std.proofs.Common.{ℕ, List}
use Rattle.gb_text.specs.Taking.{IsTaking}
use Rattle.gb_text.proofs.table.csv_rows.Given as goal

abbrev pub invariant-loop-row : goal.invariant-loop-row
invariant-loop-row l = (names : List (List ℕ)) (bytes : List ℕ) → IsTaking names l.fn.null_word bytes l.fn.rows l.fn.columns.items l.fn.reader → IsTaking names l.fn.null_word bytes l.row l.columns.items l.reader
