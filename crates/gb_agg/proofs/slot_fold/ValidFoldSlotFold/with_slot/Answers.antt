use Rattle.gb_defs.specs.Slot.{slot_at}
use Rattle.gb_agg.proofs.slot_fold.ValidFoldSlotFold.with_slot.Goals as goal

pub returns : goal.returns
returns g c = λ slots holds. c.with_validity.ensures slots (slot_at c.args.chunk.now c.args.at) c.is_valid.ensures holds
