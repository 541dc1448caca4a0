use Rattle.std.proofs.Common.{◌+◌, arith}
use Rattle.std.proofs.lemmas.List.{take_rest}
use Rattle.gb_text.proofs.PlainLemmas.{unquoting_none, within_closed, within_more}
use Rattle.gb_text.proofs.table.cell.quoted_cell.Goals as goal

pub loop-i-init : goal.loop-i-init
loop-i-init c = unquoting_none c.args.body.now

pub loop-i-preserved : goal.loop-i-preserved
loop-i-preserved c = within_more c.args.body.now c.loop-i.i c.loop-i.invariant (omega arith) (omega arith)

pub returns-then-body-i-eq34 : goal.returns-then-body-i-eq34
returns-then-body-i-eq34 c =
    let body = c.args.body.now in
    let closed = rw (c.in_ok-rest.was, take_rest body (c.loop-i.i + 1)) at c.behind_close.ensures in
    within_closed body c.loop-i.i c.in_ok-rest.rest.now c.in_ok-rest.last c.loop-i.invariant (omega arith) c.if-body-i-eq34.true closed
