use Rattle.std.proofs.Common.{◌≡◌, replicate}
use Rattle.gb_defs.specs.Slot.{Nil}
use Rattle.gb_values.proofs.nullable.NullableArray.nulls.Given as goal

abbrev pub invariant-loop-null : goal.invariant-loop-null
invariant-loop-null g l = l.nulls ≡ replicate l._null Nil
