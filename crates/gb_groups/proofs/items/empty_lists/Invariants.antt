use Rattle.std.proofs.Common.{◌≡◌, ◌≤◌, length}
use Rattle.std.specs.Vec.{vec_capacity}
use Rattle.gb_groups.proofs.items.empty_lists.Given as goal

abbrev pub invariant-loop : goal.invariant-loop
invariant-loop l = record {
  so_far : length l.lists.items ≡ l.counter;
  room : l.count ≤ vec_capacity l.lists;
}
