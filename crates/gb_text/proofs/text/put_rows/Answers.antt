use Rattle.std.proofs.Common.{[], List, ℕ, subst}
use Rattle.gb_defs.specs.Text.{row_line}
use Rattle.gb_text.specs.Text.{HasBegun, contents_of}
use Rattle.gb_text.proofs.TextLemmas.{row_more}
use Rattle.gb_text.proofs.text.put_rows.Goals as goal

pub loop-place-preserved : goal.loop-place-preserved
loop-place-preserved c = λ before begun.
    let line = row_line c.args.null_word.now (contents_of c.args.columns.now) in
    let more = row_more line before c.args.range.0 c.loop-place.place in
    subst (λ (text : List ℕ). HasBegun c.put_row.new.writer text []) more (c.in_ok-put_row.ensures _ (c.loop-place.invariant before begun))
