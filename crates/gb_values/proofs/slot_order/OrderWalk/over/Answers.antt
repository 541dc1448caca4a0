use Rattle.std.proofs.Common.{◌∙◌, sym}
use Rattle.gb_values.specs.SlotOrder.{last_slot}
use Rattle.gb_values.proofs.SlotOrderLemmas.{walk_shut}
use Rattle.gb_values.proofs.slot_order.OrderWalk.over.Goals as goal

pub returns-then-not-is_open : goal.returns-then-not-is_open
returns-then-not-is_open g c = walk_shut g.V.Values.dtype c.args.self (last_slot c.args.before) c.args.chunk.now (sym c.is_open.ensures ∙ c.if-not-is_open.true)
