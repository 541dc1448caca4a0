use Rattle.gb_text.specs.Text.{TakesRows, contents_of, rows_text}
use Rattle.gb_text.proofs.text.put_rows.Given as goal

abbrev pub invariant-loop-place : goal.invariant-loop-place
invariant-loop-place l = TakesRows l.fn.writer l.writer (rows_text l.null_word (contents_of l.columns) (l.first, l.place))
