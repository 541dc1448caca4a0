use Rattle.std.proofs.Common.{◌≡◌, ◌∙◌, ap}
use Rattle.std.specs.Prelude.{if◌then◌else◌}
use Rattle.gb_defs.specs.ColumnType.{Flat}
use Rattle.gb_defs.specs.Slot.{Slot, slot_at}
use Rattle.gb_values.specs.Array.{native_slot}
use Rattle.gb_agg.specs.Extremes.{is_better}
use Rattle.gb_agg.proofs.ExtremeLemmas.{slot_more}
use Rattle.gb_agg.proofs.slot_fold.ExtremeFoldSlotFoldNumberValues.with_slot.Goals as goal

pub returns : goal.returns
returns g c = λ slots known.
    let greatest = c.args.self.now.greatest in
    let t = Flat g.T.Native.Native.flat in
    let best = native_slot g.T.Native.Native.number c.args.best in
    c.better_of.ensures ∙ ap (λ (s : Slot). if is_better greatest t s best then s else best) c.get.ensures
    ∙ slot_more greatest t slots (slot_at c.args.chunk.now c.args.at) best known
