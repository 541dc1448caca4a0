use Rattle.std.proofs.Common.{◌≡◌, ◌++◌, map}
use Rattle.std.specs.Vec.{vec_capacity}
use Rattle.gb_groups.proofs.items.push_items.Given as goal

abbrev pub invariant-loop-row : goal.invariant-loop-row
invariant-loop-row l = record {
  can_next : (goal.iterator-loop-row).can_next l.row-iterator;
  ends : (goal.iterator-loop-row).is_finite l.row-iterator;
  firsts : l.first.items ≡ l.fn.first.items ++ map (λ item. item.0) l.yielded;
  lists : l.all.items ≡ l.fn.all.items ++ map (λ item. item.1) l.yielded;
  first_room : vec_capacity l.first ≡ vec_capacity l.fn.first;
  all_room : vec_capacity l.all ≡ vec_capacity l.fn.all;
}
