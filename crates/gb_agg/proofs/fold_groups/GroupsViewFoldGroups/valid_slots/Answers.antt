use Rattle.gb_agg.proofs.fold_groups.GroupsViewFoldGroups.valid_slots.Goals as goal

pub fold_groups-requires-clause-rows : goal.fold_groups-requires-clause-rows
fold_groups-requires-clause-rows g c = rw c.new.ensures c.requires.suits.0
