use Rattle.gb_paths.proofs.number_rows.number_hashed.Given as goal

abbrev pub ghosts-number_blank : goal.ghosts-number_blank
ghosts-number_blank g a = record { name = a.blank.name; parts = a.blank.parts }
