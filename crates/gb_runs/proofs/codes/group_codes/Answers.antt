use Rattle.gb_groups.specs.GroupsType.{groups_of}
use Rattle.gb_runs.proofs.CodeLemmas.{sorted_codes}
use Rattle.gb_runs.proofs.codes.group_codes.Goals as goal

pub returns-then-sorted-clause-ok : goal.returns-then-sorted-clause-ok
returns-then-sorted-clause-ok g c =
    let told = c.in_ok-sort.ensures in
    rw c.if-sorted.true (sorted_codes c.args.column.now.slots c.args.count c.requires.codes (groups_of c.in_ok-groups.groups) _ c.in_ok-groups.ensures.ok told.sorted told.flagged told.form)
