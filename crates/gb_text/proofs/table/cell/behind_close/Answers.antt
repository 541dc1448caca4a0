use Rattle.gb_text.proofs.PlainLemmas.{closed_comma, closed_feed, closed_none, closed_return}
use Rattle.gb_text.proofs.table.cell.behind_close.Goals as goal

pub returns-in_default : goal.returns-in_default
returns-in_default c = closed_none c.args.behind.now c.in_default.ensures.cases

pub returns-then-end-eq44 : goal.returns-then-end-eq44
returns-then-end-eq44 c = rw (c.in-Some.ensures.cases.0, c.if-end-eq44.true) (closed_comma c.in-Some.left.now)

pub returns-then-end-eq10 : goal.returns-then-end-eq10
returns-then-end-eq10 c = rw (c.in-Some.ensures.cases.0, c.if-end-eq10.true) (closed_feed c.in-Some.left.now)

pub returns-then-end-eq13 : goal.returns-then-end-eq13
returns-then-end-eq13 c = rw (c.in-Some.ensures.cases.0, c.if-end-eq13.true) (closed_return c.in-Some.left.now c.behind_return.result.now c.behind_return.ensures)
