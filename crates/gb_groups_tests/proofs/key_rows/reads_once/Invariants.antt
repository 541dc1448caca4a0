use Rattle.gb_groups_tests.proofs.key_rows.reads_once.Given as goal

abbrev pub ghosts-reads_as : goal.ghosts-reads_as
ghosts-reads_as g a = record { name = a.blank.name; parts = a.blank.parts }
