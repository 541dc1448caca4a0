use Rattle.std.proofs.Common.{◌≡◌, length, take}
use Rattle.gb_groups.specs.Parts.{Hold}
use Rattle.gb_groups.proofs.items.move_items.Given as goal

abbrev pub invariant-loop-row : goal.invariant-loop-row
invariant-loop-row l = record {
  can_next : (goal.iterator-loop-row).can_next l.row-iterator;
  ends : (goal.iterator-loop-row).is_finite l.row-iterator;
  at : l.place ≡ length l.yielded;
  moved : Hold l.yielded (take l.place l.first) (take l.place l.all);
}
