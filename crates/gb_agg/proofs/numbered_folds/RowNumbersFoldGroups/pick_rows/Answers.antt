use Rattle.std.proofs.Common.{◌∙◌}
use Rattle.gb_agg.proofs.NumberedLemmas.{picks_numbered}
use Rattle.gb_agg.proofs.numbered_folds.RowNumbersFoldGroups.pick_rows.Goals as goal

pub returns-clause-ok : goal.returns-clause-ok
returns-clause-ok g c = picks_numbered (g.P.RowPick.column c.args.pick.now) c.args.self.now (g.P.RowPick.fold c.args.pick.now) c.in_ok-rows.rows.items c.in_ok-rows.ensures
