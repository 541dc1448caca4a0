use Rattle.std.proofs.Common.{◌≤◌}
use Rattle.std.specs.Vec.{vec_capacity}
use Rattle.gb_flat.specs.Buffers.{joined}
use Rattle.gb_groups.specs.Parts.{Hold}
use Rattle.gb_groups.proofs.items.join_parts.Given as goal

abbrev pub invariant-loop-part : goal.invariant-loop-part
invariant-loop-part l = record {
  can_next : (goal.iterator-loop-part).can_next l.part-iterator;
  ends : (goal.iterator-loop-part).is_finite l.part-iterator;
  joined : Hold (joined l.yielded) l.first.items l.all.items;
  first_room : l.count ≤ vec_capacity l.first;
  all_room : l.count ≤ vec_capacity l.all;
}
