use Rattle.gb_paths.proofs.group_by.group_uncounted.Given as goal

abbrev pub ghosts-group_blank : goal.ghosts-group_blank
ghosts-group_blank g a = record { name = a.blank.name; parts = a.blank.parts }
