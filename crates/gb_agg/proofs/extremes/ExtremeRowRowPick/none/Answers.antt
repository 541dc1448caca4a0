use Rattle.std.proofs.Common.{◌∙◌, [], ap, refl}
use Rattle.gb_defs.specs.Slot.{slot_at}
use Rattle.gb_agg.proofs.ExtremeLemmas.{extreme_none, extreme_one}
use Rattle.gb_agg.proofs.extremes.ExtremeRowRowPick.none.Goals as goal

pub returns-clause-of_none : goal.returns-clause-of_none
returns-clause-of_none g c =
    let column = g.C.FoldOrder.column c.args.self.now.column.now in
    ap (slot_at column.slots) c.row_count.ensures ∙ extreme_none c.args.self.now.greatest column [] refl

pub returns-clause-of_one : goal.returns-clause-of_one
returns-clause-of_one g c = λ row. extreme_one c.args.self.now.greatest (g.C.FoldOrder.column c.args.self.now.column.now) row
