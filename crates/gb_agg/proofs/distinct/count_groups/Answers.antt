use Rattle.std.proofs.Common.{◌∙◌, ◌<◌, [], arith, length}
use Rattle.std.proofs.lemmas.List.{get_or_default}
use Rattle.gb_defs.specs.Groups.{AreMembers}
use Rattle.gb_groups.specs.GroupsIndicator.{pair_of}
use Rattle.gb_agg.proofs.ListLemmas.{list_at}
use Rattle.gb_agg.proofs.distinct.count_groups.Goals as goal

pub count_group-count-requires-clause-rows : goal.count_group-count-requires-clause-rows
count_group-count-requires-clause-rows c =
    let pairs = c.args.groups.now.pairs in
    let place = c.loop-place.place in
    let pair = pair_of c.get.result in
    let lt : place < length pairs = omega (arith, c.loop-place-test.true, c.len-place-end.ensures) in
    list_at pairs place pair lt (c.get.ensures ∙ get_or_default pairs place (0, []) pair lt) (AreMembers (length c.args.numbers.now)) c.requires.rows
