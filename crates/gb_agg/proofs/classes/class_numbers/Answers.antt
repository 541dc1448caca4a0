use Rattle.std.proofs.Common.{◌∙◌, ℕ, All, subst, sym}
use Rattle.gb_defs.specs.Groups.{AreMembers, lists_in}
use Rattle.gb_groups.specs.GroupsType.{groups_of}
use Rattle.gb_agg.proofs.classes.class_numbers.Goals as goal

pub number_groups-requires-clause-rows : goal.number_groups-requires-clause-rows
number_groups-requires-clause-rows c =
    subst (λ (n : ℕ). All (AreMembers n) (lists_in (groups_of c.args.groups.now))) (sym (c.as_mut_slice.ensures.len ∙ c.in_ok-resize.ensures.len)) c.requires.rows
