use Rattle.gb_paths.proofs.PartLemmas.{range_members}
use Rattle.gb_paths.proofs.number_rows.number_range.Goals as goal

pub number_members-requires-clause-members : goal.number_members-requires-clause-members
number_members-requires-clause-members g c κs within = rw (c.new.ensures.start, c.new.ensures.count) (range_members _ c.args.range.0 c.args.range.1 c.requires.inside)
