use Rattle.gb_text.proofs.text.text_from_header.Goals as goal

pub returns-clause-ok : goal.returns-clause-ok
returns-clause-ok c = c.in_ok-text.ensures.ok _ (c.in_ok-put_rows.ensures _ (c.in_ok-put_header.ensures _ c.in_ok-writer.ensures))
