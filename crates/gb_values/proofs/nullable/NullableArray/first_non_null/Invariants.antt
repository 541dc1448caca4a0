use Rattle.std.proofs.Common.{◌≡◌, ℕ, ◌<◌, true}
use Rattle.gb_defs.specs.Slot.{is_nil, slot_at}
use Rattle.gb_values.proofs.nullable.NullableArray.first_non_null.Given as goal

abbrev pub invariant-loop-i : goal.invariant-loop-i
invariant-loop-i g l = (k : ℕ) → k < l.i → is_nil (slot_at l.self k) ≡ true
