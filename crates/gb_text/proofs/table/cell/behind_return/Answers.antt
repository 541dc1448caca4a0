use Rattle.gb_text.proofs.PlainLemmas.{returned_feed, returned_none, returned_other}
use Rattle.gb_text.proofs.table.cell.behind_return.Goals as goal

pub returns-in_default : goal.returns-in_default
returns-in_default c = returned_none c.args.left.now c.in_default.ensures.cases

pub returns-then-first-eq10 : goal.returns-then-first-eq10
returns-then-first-eq10 c = rw (c.in-Some.ensures.cases.0, c.if-first-eq10.true) (returned_feed c.in-Some.rest.now)

pub returns : goal.returns
returns c = rw c.in-Some.ensures.cases.0 (returned_other c.in-Some.first.now c.in-Some.rest.now)
