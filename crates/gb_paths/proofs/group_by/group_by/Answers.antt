use Rattle.std.proofs.Common.{arith, ap, ◌∙◌}
use Rattle.std.proofs.lemmas.List.FromFn.{length-range_with_len}
use Rattle.gb_defs.specs.Classes.{rows_below}
use Rattle.gb_defs.specs.Groups.{Grouping}
use Rattle.gb_defs.specs.Path.{Table}
use Rattle.gb_paths.specs.Numbers.{groups_among}
use Rattle.gb_paths.proofs.FormLemmas.{path_formed}
use Rattle.gb_paths.proofs.HashLemmas.{below_hashed, below_long}
use Rattle.gb_paths.proofs.MemberLemmas.{all_members}
use Rattle.gb_paths.proofs.group_by.group_by.Goals as goal

pub group_members-requires-clause-members : goal.group_members-requires-clause-members
group_members-requires-clause-members g c κs within =
    let rows = g.R.KeyRows.rows c.args.rows.now in
    rw (below_long rows, c.new-members.ensures, c.len.ensures) (all_members rows.count)

pub group_members-requires-clause-hashes : goal.group_members-requires-clause-hashes
group_members-requires-clause-hashes g c κs within = below_hashed (g.R.KeyRows.rows c.args.rows.now)

pub returns-in_err-groups-clause-steps_at_most : goal.returns-in_err-groups-clause-steps_at_most
returns-in_err-groups-clause-steps_at_most g c =
    let long = length-range_with_len 0 c.new-members.result.count in
    omega (arith, long)

pub returns-clause-steps : goal.returns-clause-steps
returns-clause-steps g c =
    let long = length-range_with_len 0 c.new-members.result.count in
    omega (arith, long, c.in_ok-groups.ensures.steps)

pub returns-clause-steps_at_most : goal.returns-clause-steps_at_most
returns-clause-steps_at_most g c =
    let long = length-range_with_len 0 c.new-members.result.count in
    omega (arith, long)

pub returns-clause-formed : goal.returns-clause-formed
returns-clause-formed g c =
    let rows = g.R.KeyRows.rows c.args.rows.now in
    let members = ap rows_below (c.new-members.ensures ∙ c.len.ensures) in
    let pairs = ap (λ (g : Grouping). g.pairs) (c.from.ensures ∙ c.new.ensures) ∙ c.in_ok-groups.ensures.classes ∙ ap (groups_among rows) members in
    rw pairs (path_formed Table rows 0 0 c.args.sorted)
