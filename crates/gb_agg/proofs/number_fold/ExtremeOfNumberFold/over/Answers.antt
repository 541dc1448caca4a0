use Rattle.std.proofs.Common.{◌∙◌, sym}
use Rattle.gb_defs.specs.ColumnType.{Flat}
use Rattle.gb_agg.proofs.ExtremeLemmas.{fold_extreme}
use Rattle.gb_agg.proofs.number_fold.ExtremeOfNumberFold.over.Goals as goal

pub returns : goal.returns
returns g c = c.fold_rows.ensures ∙ sym (fold_extreme c.args.self.now.greatest (Flat g.T.Native.Native.flat) c.args.self.now.column.now.slots (g.R.GroupRows.rows c.args.rows.now))
