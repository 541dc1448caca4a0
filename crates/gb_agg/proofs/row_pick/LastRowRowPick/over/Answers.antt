use Rattle.std.proofs.Common.{◌∙◌, ◌-◌, ℕ, ap, arith, get_or}
use Rattle.gb_defs.specs.Slot.{slot_at}
use Rattle.gb_agg.proofs.PickLemmas.{last_none, last_some}
use Rattle.gb_agg.proofs.row_pick.LastRowRowPick.over.Goals as goal

pub returns-then-count-eq0-clause-picked : goal.returns-then-count-eq0-clause-picked
returns-then-count-eq0-clause-picked g c =
    let column = g.C.SeriesTrait.value c.args.self.now.column.now in
    ap (slot_at column.slots) c.len.ensures.value ∙ last_none column (g.R.GroupRows.rows c.args.rows.now) (omega (arith, c.count-count.ensures, c.if-count-eq0.true))

pub returns-else-count-eq0-clause-picked : goal.returns-else-count-eq0-clause-picked
returns-else-count-eq0-clause-picked g c =
    let column = g.C.SeriesTrait.value c.args.self.now.column.now in
    let rows = g.R.GroupRows.rows c.args.rows.now in
    ap (slot_at column.slots) (c.row_at.ensures ∙ ap (λ (n : ℕ). get_or rows (n - 1) 0) c.count-count.ensures) ∙ last_some column rows (omega (arith, c.count-count.ensures, c.if-count-eq0.false))
