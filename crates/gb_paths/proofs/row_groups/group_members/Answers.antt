use Rattle.std.proofs.Common.{arith, length, ◌∙◌, ap}
use Rattle.gb_paths.proofs.MemberLemmas.{as_many, few_members}
use Rattle.gb_paths.proofs.row_groups.group_members.Goals as goal

pub row_lists-requires-clause-few : goal.row_lists-requires-clause-few
row_lists-requires-clause-few g c =
    let few = few_members _ _ c.requires.members in
    let long = ap length c.as_slice.ensures.value ∙ c.in_ok-found.ensures.each in
    omega (arith, few, long, c.requires.hashes.within, c.requires.few)

pub returns-clause-as_many : goal.returns-clause-as_many
returns-clause-as_many g c =
    let many = as_many _ _ _ c.in_ok-all.all.items c.in_ok-all.ensures in
    omega (arith, many)
