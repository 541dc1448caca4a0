use Rattle.gb_agg.proofs.fold_groups.GroupsViewFoldGroups.number_extremes.Goals as goal

pub fold_groups-requires-clause-rows : goal.fold_groups-requires-clause-rows
fold_groups-requires-clause-rows g c = rw c.new.ensures.column c.requires.0

pub returns-clause-ok : goal.returns-clause-ok
returns-clause-ok g c = rw c.allocator-alloc.ensures.typed (rw (c.new.ensures.column, c.new.ensures.greatest) at c.fold_groups.ensures.ok)
