use Rattle.std.proofs.Common.{◌∙◌, ◌∷◌, [], ap, arith, refl}
use Rattle.gb_defs.specs.Slot.{slot_at}
use Rattle.gb_agg.proofs.PickLemmas.{last_none, last_some}
use Rattle.gb_agg.proofs.row_pick.LastRowRowPick.none.Goals as goal

pub returns-clause-of_none : goal.returns-clause-of_none
returns-clause-of_none g c =
    let column = g.C.SeriesTrait.value c.args.self.now.column.now in
    ap (slot_at column.slots) c.len.ensures.value ∙ last_none column [] refl

pub returns-clause-of_one : goal.returns-clause-of_one
returns-clause-of_one g c = λ row. last_some (g.C.SeriesTrait.value c.args.self.now.column.now) (row ∷ []) (omega arith)
