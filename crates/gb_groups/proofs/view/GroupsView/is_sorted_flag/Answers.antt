use Rattle.std.proofs.Common.{map, subst}
use Rattle.std.specs.List.Sorted.{IsNonDecreasing}
use Rattle.gb_defs.specs.Groups.{Grouping, first_of}
use Rattle.gb_groups.specs.GroupsType.{groups_of}
use Rattle.gb_groups.proofs.ViewLemmas.{part_ascends}
use Rattle.gb_groups.proofs.view.GroupsView.is_sorted_flag.Goals as goal

pub returns-clause-ascend : goal.returns-clause-ascend
returns-clause-ascend c =
    λ told.
    subst (λ (g : Grouping). IsNonDecreasing (map first_of g.pairs)) c.self.view_is
    (part_ascends (groups_of c.self.inside.groups.now) c.self.inside.start c.self.inside.count (c.is_sorted_flag.ensures.ascend told))
