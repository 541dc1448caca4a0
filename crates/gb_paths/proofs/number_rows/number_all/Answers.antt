use Rattle.gb_paths.proofs.MemberLemmas.{all_members}
use Rattle.gb_paths.proofs.number_rows.number_all.Goals as goal

pub number_members-requires-clause-members : goal.number_members-requires-clause-members
number_members-requires-clause-members g c κs within = rw (c.new.ensures, c.len-count.ensures) (all_members (g.R.KeyRows.rows c.args.rows.now).count)
