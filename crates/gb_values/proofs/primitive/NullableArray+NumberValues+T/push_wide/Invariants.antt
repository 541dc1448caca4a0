use Rattle.std.proofs.Common.{◌≡◌, ◌+◌, ◌-◌, ◌≤◌, ◌++◌, map, take}
use Rattle.std.specs.List.{All}
use Rattle.gb_values.specs.Keys.{IsToldByWide, wide_key}
use Rattle.gb_values.proofs.primitive.NullableArray+NumberValues+T.push_wide.Given as goal

abbrev pub invariant-loop-i : goal.invariant-loop-i
invariant-loop-i g l = record {
  more : l.keys.items ≡ l.fn.keys.items ++ map wide_key (take l.i l.self);
  room : l.keys.len + (l.count - l.i) ≤ l.keys.cap;
  back : All (IsToldByWide g.T.Native.Native.flat) (take l.i l.self);
}
