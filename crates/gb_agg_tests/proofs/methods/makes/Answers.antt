use Rattle.std.proofs.Common.{◌≡◌, ℕ, All, ap, arith, length, subst, sym}
use Rattle.gb_defs.specs.Groups.{AreMembers, Grouping, lists_in}
use Rattle.gb_groups.specs.GroupsType.{groups_of}
use Rattle.gb_series.specs.Series.{value_of}
use Rattle.gb_agg_tests.proofs.methods.makes.Goals as goal

pub aggregate_all-requires-clause-groups : goal.aggregate_all-requires-clause-groups
aggregate_all-requires-clause-groups g c κs within =
    let column = value_of c.in_ok-column.column in
    let groups = groups_of c.in_ok-groups.groups in
    let high : 4 ≡ length column.slots = omega (arith, c.len.ensures.value, c.if-len-ne4.false) in
    let members = subst (λ (n : ℕ). All (AreMembers n) (lists_in groups)) high c.in_ok-groups.ensures in
    record {
      rows = subst (λ (g : Grouping). All (AreMembers (length column.slots)) (lists_in g)) (sym c.view.ensures) members;
      few = omega (arith, c.len-2.ensures, c.if-len-ne4-2.false, ap (λ (g : Grouping). length g.pairs) c.view.ensures);
    }
