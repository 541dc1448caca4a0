use Rattle.std.proofs.Common.{◌≡◌, map, take}
use Rattle.gb_values.specs.Array.{native_slot}
use Rattle.gb_cols.proofs.primitive.ChunkedArray+NumberValues+T.from_slice_options.Given as goal

abbrev pub invariant-loop-slot : goal.invariant-loop-slot
invariant-loop-slot g l = l.chunk ≡ map (native_slot g.T.Native.Native.number) (take l.slot-index l.v)
