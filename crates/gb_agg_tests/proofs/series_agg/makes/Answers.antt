use Rattle.std.proofs.Common.{◌≡◌, ℕ, All, arith, length, subst}
use Rattle.gb_defs.specs.Groups.{AreMembers, lists_in}
use Rattle.gb_groups.specs.GroupsType.{groups_of}
use Rattle.gb_series.specs.Series.{value_of}
use Rattle.gb_agg_tests.proofs.series_agg.makes.Goals as goal

pub put_aggregates-requires-clause-groups : goal.put_aggregates-requires-clause-groups
put_aggregates-requires-clause-groups g c κs within =
    let column = value_of c.args.column.now in
    let groups = groups_of c.in_ok-groups.groups in
    let high : 5 ≡ length column.slots = omega (arith, c.len.ensures.value, c.if-len-ne5.false) in
    record {
      rows = subst (λ (n : ℕ). All (AreMembers n) (lists_in groups)) high c.in_ok-groups.ensures;
      few = omega (arith, c.len-2.ensures, c.if-len-ne4.false);
    }
