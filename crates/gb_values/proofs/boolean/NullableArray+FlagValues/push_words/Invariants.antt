use Rattle.std.proofs.Common.{◌≡◌, ◌+◌, ◌-◌, ◌≤◌, ◌++◌, map, take}
use Rattle.std.specs.List.{All}
use Rattle.gb_defs.specs.ColumnType.{Boolean}
use Rattle.gb_values.specs.Keys.{IsToldByWord, word_key}
use Rattle.gb_values.proofs.boolean.NullableArray+FlagValues.push_words.Given as goal

abbrev pub invariant-loop-i : goal.invariant-loop-i
invariant-loop-i l = record {
  more : l.keys.items ≡ l.fn.keys.items ++ map word_key (take l.i l.self);
  room : l.keys.len + (l.count - l.i) ≤ l.keys.cap;
  back : All (IsToldByWord Boolean) (take l.i l.self);
}
