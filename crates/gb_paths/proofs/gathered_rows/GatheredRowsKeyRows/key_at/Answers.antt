use Rattle.gb_paths.proofs.GatherLemmas.{key_there}
use Rattle.gb_paths.proofs.gathered_rows.GatheredRowsKeyRows.key_at.Goals as goal

pub returns-clause-value : goal.returns-clause-value
returns-clause-value g c =
    let some = c.args.self.now in
    key_there g.R.KeyRows.key_slot (g.R.KeyRows.rows some.rows.now).slot some.keys.items some.members.now c.args.i _ some.keyed c.requires c.index.ensures
