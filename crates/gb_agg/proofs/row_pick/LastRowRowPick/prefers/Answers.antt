use Rattle.gb_agg.proofs.PickLemmas.{last_more}
use Rattle.gb_agg.proofs.row_pick.LastRowRowPick.prefers.Goals as goal

pub returns : goal.returns
returns g c = λ rows some is. last_more (g.C.SeriesTrait.value c.args.self.now.column.now) rows c.args._row
