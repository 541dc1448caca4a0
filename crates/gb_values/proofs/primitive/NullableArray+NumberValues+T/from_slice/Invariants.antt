use Rattle.std.proofs.Common.{◌≡◌, map, take}
use Rattle.gb_defs.specs.Slot.{Num}
use Rattle.gb_values.proofs.primitive.NullableArray+NumberValues+T.from_slice.Given as goal

abbrev pub invariant-loop-value : goal.invariant-loop-value
invariant-loop-value g l = l.array ≡ map (λ n. Num (g.T.Native.Native.number n)) (take l.value-index l.values)
