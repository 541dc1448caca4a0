use Rattle.gb_text.proofs.text.text_of_rows.Goals as goal

pub returns-clause-ok : goal.returns-clause-ok
returns-clause-ok c = c.in_ok-text.ensures.ok _ (c.in_ok-put_rows.ensures _ c.in_ok-writer.ensures)
