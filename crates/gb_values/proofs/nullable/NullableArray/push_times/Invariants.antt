use Rattle.std.proofs.Common.{◌≡◌, ◌++◌, replicate}
use Rattle.gb_defs.specs.Slot.{slot_at}
use Rattle.gb_values.proofs.nullable.NullableArray.push_times.Given as goal

abbrev pub invariant-loop-time : goal.invariant-loop-time
invariant-loop-time g l = l.self ≡ l.fn.self ++ replicate l._time (slot_at l.other l.i)
