use Rattle.gb_paths.proofs.HashLemmas.{below_hashed, below_long}
use Rattle.gb_paths.proofs.number_rows.number_members.Goals as goal

pub number_hashed-requires-clause-members : goal.number_hashed-requires-clause-members
number_hashed-requires-clause-members g c κs within = rw (below_long (g.R.KeyRows.rows c.args.rows.now)) c.requires.members

pub number_hashed-requires-clause-hashes : goal.number_hashed-requires-clause-hashes
number_hashed-requires-clause-hashes g c κs within = below_hashed (g.R.KeyRows.rows c.args.rows.now)
