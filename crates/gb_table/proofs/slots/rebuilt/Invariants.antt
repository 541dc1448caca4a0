use Rattle.std.proofs.Common.{◌≡◌, length, map, take}
use Rattle.gb_table.specs.Table.{IsTable}
use Rattle.gb_table.proofs.slots.rebuilt.Given as goal

abbrev pub invariant-loop-number : goal.invariant-loop-number
invariant-loop-number g l = record {
  table : IsTable l.slots.items (take l.number (map g.E.Hashed.hash_of l.entries));
  len : length l.slots.items ≡ l.capacity;
}
