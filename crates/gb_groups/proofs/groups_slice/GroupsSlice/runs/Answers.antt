use Rattle.gb_groups.proofs.ViewLemmas.{fit_part}
use Rattle.gb_groups.proofs.groups_slice.GroupsSlice.runs.Goals as goal

pub returns-clause-fit : goal.returns-clause-fit
returns-clause-fit c = rw (c.part_of.ensures, c.as_slice.ensures.value) (fit_part c.self.inside.slices.items c.args.start c.args.count c.self.invariant)
