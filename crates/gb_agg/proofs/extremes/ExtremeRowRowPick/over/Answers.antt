use Rattle.std.proofs.Common.{◌∙◌, ap, arith}
use Rattle.gb_defs.specs.Slot.{slot_at}
use Rattle.gb_agg.proofs.ExtremeLemmas.{extreme_none}
use Rattle.gb_agg.proofs.extremes.ExtremeRowRowPick.over.Goals as goal

pub returns-then-count-eq0-clause-picked : goal.returns-then-count-eq0-clause-picked
returns-then-count-eq0-clause-picked g c =
    let column = g.C.FoldOrder.column c.args.self.now.column.now in
    ap (slot_at column.slots) c.row_count.ensures ∙ extreme_none c.args.self.now.greatest column (g.R.GroupRows.rows c.args.rows.now) (omega (arith, c.count.ensures, c.if-count-eq0.true))
