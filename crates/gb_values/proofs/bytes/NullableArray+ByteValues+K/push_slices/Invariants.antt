use Rattle.std.proofs.Common.{◌≡◌, ◌+◌, ◌-◌, ◌≤◌, ◌++◌, map, take}
use Rattle.gb_values.specs.Keys.{bytes_slot}
use Rattle.gb_values.proofs.bytes.NullableArray+ByteValues+K.push_slices.Given as goal

abbrev pub invariant-loop-i : goal.invariant-loop-i
invariant-loop-i g l = record {
  more : map bytes_slot l.keys.items ≡ map bytes_slot l.fn.keys.items ++ take l.i l.self;
  room : l.keys.len + (l.count - l.i) ≤ l.keys.cap;
}
