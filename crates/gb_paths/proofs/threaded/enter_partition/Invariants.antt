use Rattle.gb_paths.proofs.threaded.enter_partition.Given as goal

abbrev pub ghosts-group_partition : goal.ghosts-group_partition
ghosts-group_partition g a = record { name = a.blank.name; parts = a.blank.parts }
