use Rattle.std.proofs.Common.{◌∙◌}
use Rattle.gb_agg.proofs.PickLemmas.{first_more}
use Rattle.gb_agg.proofs.row_pick.FirstRowRowPick.prefers.Goals as goal

pub returns : goal.returns
returns g c = λ rows some is. is ∙ first_more (g.C.SeriesTrait.value c.args.self.now.column.now) rows c.args._row some
