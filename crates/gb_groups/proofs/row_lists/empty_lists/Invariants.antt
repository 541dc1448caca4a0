use Rattle.std.proofs.Common.{◌≡◌, ◌≤◌, length, take, vec_capacity}
use Rattle.std.specs.List.{AllZip}
use Rattle.gb_groups.specs.Numbers.{IsRoomFor}
use Rattle.gb_groups.proofs.row_lists.empty_lists.Given as goal

abbrev pub invariant-loop-count : goal.invariant-loop-count
invariant-loop-count l = record {
  made : AllZip IsRoomFor (take l.count-index l.counts) l.lists.items;
  room : length l.counts ≤ vec_capacity l.lists;
  so_far : length l.lists.items ≡ l.count-index;
}
