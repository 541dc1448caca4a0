use Rattle.std.proofs.Common.{◌≡◌, map, take}
use Rattle.gb_base.specs.AnyValue.{flag_number}
use Rattle.gb_values.specs.Array.{native_slot}
use Rattle.gb_cols.proofs.boolean.ChunkedArray+FlagValues.from_slice_options.Given as goal

abbrev pub invariant-loop-slot : goal.invariant-loop-slot
invariant-loop-slot l = l.chunk ≡ map (native_slot flag_number) (take l.slot-index l.v)
