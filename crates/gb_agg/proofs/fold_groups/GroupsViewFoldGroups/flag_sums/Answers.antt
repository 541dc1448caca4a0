use Rattle.gb_agg.proofs.fold_groups.GroupsViewFoldGroups.flag_sums.Goals as goal

pub fold_groups-requires-clause-rows : goal.fold_groups-requires-clause-rows
fold_groups-requires-clause-rows c = rw c.new.ensures c.requires.0
