use Rattle.std.proofs.Common.{◌≡◌, ◌≤◌, length, take, vec_capacity}
use Rattle.gb_groups.specs.Groups.{lists_of}
use Rattle.gb_groups.proofs.same.copy_lists.Given as goal

abbrev pub invariant-loop-rows : goal.invariant-loop-rows
invariant-loop-rows l = record {
  so_far : lists_of l.copy.items ≡ lists_of (take l.rows-index l.lists);
  made : length l.copy.items ≡ l.rows-index;
  room : length l.lists ≤ vec_capacity l.copy;
}
