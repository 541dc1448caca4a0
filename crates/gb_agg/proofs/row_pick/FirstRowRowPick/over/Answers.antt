use Rattle.std.proofs.Common.{◌∙◌, ap, arith}
use Rattle.gb_defs.specs.Slot.{slot_at}
use Rattle.gb_agg.proofs.PickLemmas.{first_none, first_some}
use Rattle.gb_agg.proofs.row_pick.FirstRowRowPick.over.Goals as goal

pub returns-then-count-eq0-clause-picked : goal.returns-then-count-eq0-clause-picked
returns-then-count-eq0-clause-picked g c =
    let column = g.C.SeriesTrait.value c.args.self.now.column.now in
    ap (slot_at column.slots) c.len.ensures.value ∙ first_none column (g.R.GroupRows.rows c.args.rows.now) (omega (arith, c.count.ensures, c.if-count-eq0.true))

pub returns-else-count-eq0-clause-picked : goal.returns-else-count-eq0-clause-picked
returns-else-count-eq0-clause-picked g c =
    let column = g.C.SeriesTrait.value c.args.self.now.column.now in
    ap (slot_at column.slots) c.row_at.ensures ∙ first_some column (g.R.GroupRows.rows c.args.rows.now) (omega (arith, c.count.ensures, c.if-count-eq0.false))
