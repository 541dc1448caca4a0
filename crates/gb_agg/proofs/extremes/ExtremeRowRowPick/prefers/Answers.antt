use Rattle.std.proofs.Common.{◌≡◌, Bool, subst, sym}
use Rattle.std.specs.Prelude.{if◌then◌else◌}
use Rattle.gb_defs.specs.Slot.{slot_at}
use Rattle.gb_agg.proofs.ExtremeLemmas.{extreme_more}
use Rattle.gb_agg.proofs.extremes.ExtremeRowRowPick.prefers.Goals as goal

pub returns : goal.returns
returns g c = λ rows some is.
    let column = g.C.FoldOrder.column c.args.self.now.column.now in
    rw c.is_better.ensures (extreme_more c.args.self.now.greatest column rows c.args.row c.args.picked is)
