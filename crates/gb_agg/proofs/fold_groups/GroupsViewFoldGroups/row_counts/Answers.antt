use Rattle.std.proofs.Common.{arith}
use Rattle.gb_paths.proofs.MemberLemmas.{members_more}
use Rattle.gb_agg.proofs.fold_groups.GroupsViewFoldGroups.row_counts.Goals as goal

pub fold_groups-requires-clause-rows : goal.fold_groups-requires-clause-rows
fold_groups-requires-clause-rows c = λ k d lt. members_more _ _ _ (omega (arith, c.requires.1)) (c.requires.2.0 k d lt)
