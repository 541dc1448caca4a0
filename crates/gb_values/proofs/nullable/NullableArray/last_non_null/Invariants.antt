use Rattle.std.proofs.Common.{◌≡◌, ℕ, ◌<◌, ◌≤◌, true, length}
use Rattle.gb_defs.specs.Slot.{is_nil, slot_at}
use Rattle.gb_values.proofs.nullable.NullableArray.last_non_null.Given as goal

abbrev pub invariant-loop-end : goal.invariant-loop-end
invariant-loop-end g l =
    record { inside : l.end ≤ length l.self; nulls : (k : ℕ) → l.end ≤ k → k < length l.self → is_nil (slot_at l.self k) ≡ true }

abbrev pub decreases-loop-end : goal.decreases-loop-end
decreases-loop-end g l = l.end
