use Rattle.gb_groups.proofs.SameLemmas.{lists_else, lists_then}
use Rattle.gb_groups.proofs.same.same_lists.Goals as goal

pub returns-then-eq : goal.returns-then-eq
returns-then-eq c =
    lists_then c.args.first.now c.args.other_first.now c.args.all.now c.args.other_all.now c.requires.each c.requires.other_each c.eq.result c.eq-then-eq.result c.eq.ensures c.if-eq.true c.eq-then-eq.ensures

pub returns-else-eq : goal.returns-else-eq
returns-else-eq c =
    lists_else c.args.first.now c.args.other_first.now c.args.all.now c.args.other_all.now c.requires.each c.requires.other_each c.eq.result c.eq.ensures c.if-eq.false
