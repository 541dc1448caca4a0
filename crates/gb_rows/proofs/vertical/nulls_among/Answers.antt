use Rattle.gb_rows.specs.Lent.{lent_cells}
use Rattle.gb_rows.proofs.LentLemmas.{no_nulls}
use Rattle.std.proofs.Common.{◌∙◌, sym}
use Rattle.gb_rows.proofs.vertical.nulls_among.Goals as goal

pub returns-else-have_nulls : goal.returns-else-have_nulls
returns-else-have_nulls c = λ row. no_nulls lent_cells c.args.keys.now c.args.nulls (sym c.have_nulls.ensures ∙ c.if-have_nulls.false) row
