use Rattle.std.proofs.Common.{◌≡◌, ◌-◌, ◌≤◌, Some, drop}
use Rattle.gb_defs.specs.Slot.{slot_at}
use Rattle.gb_values.specs.SlotOrder.{walked}
use Rattle.gb_values.proofs.slot_order.OrderWalk.within.Given as goal

abbrev pub invariant-loop-i : goal.invariant-loop-i
invariant-loop-i g l =
    let t = g.V.Values.dtype in
    record { behind : 1 ≤ l.i; same : walked t l.walk (Some (slot_at l.chunk (l.i - 1))) (drop l.i l.chunk) ≡ walked t l.fn.self (Some (slot_at l.chunk 0)) (drop 1 l.chunk) }
