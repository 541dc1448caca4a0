use Rattle.std.proofs.Common.{◌-◌, Some, drop, sym, ◌∙◌}
use Rattle.gb_defs.specs.Slot.{slot_at}
use Rattle.gb_values.proofs.SlotOrderLemmas.{walk_shut}
use Rattle.gb_values.proofs.slot_order.OrderWalk.within.Goals as goal

pub returns-then-not-is_open : goal.returns-then-not-is_open
returns-then-not-is_open g c =
    let slots = c.args.chunk.now in
    let i = c.loop-i.i in
    let shut = walk_shut g.V.Values.dtype c.loop-i.walk (Some (slot_at slots (i - 1))) (drop i slots) (sym c.is_open.ensures ∙ c.if-not-is_open.true) in rw c.loop-i.invariant.same at shut
