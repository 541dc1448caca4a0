use Rattle.std.proofs.Common.{arith}
use Rattle.gb_paths.proofs.MemberLemmas.{few_members}
use Rattle.gb_paths.proofs.threaded.join_partition.Goals as goal

pub join_lists-requires-clause-few : goal.join_lists-requires-clause-few
join_lists-requires-clause-few g c =
    let few = few_members _ _ c.requires.members in
    omega (arith, few, c.requires.hashes.within, c.requires.few)
