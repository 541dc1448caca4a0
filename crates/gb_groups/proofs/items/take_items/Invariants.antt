use Rattle.std.proofs.Common.{◌≡◌, ◌≤◌, length, drop, take, zip}
use Rattle.std.specs.Vec.{vec_capacity}
use Rattle.gb_groups.specs.Groups.{lists_of, pairs_of}
use Rattle.gb_groups.proofs.items.take_items.Given as goal

abbrev pub invariant-loop-place : goal.invariant-loop-place
invariant-loop-place l = record {
  taken : pairs_of l.items.items ≡ take l.place (zip l.first.items (lists_of l.fn.all.items));
  left : drop l.place l.rows-items ≡ drop l.place l.fn.all.items;
  so_far : length l.items.items ≡ l.place;
  room : length l.fn.all.items ≤ vec_capacity l.items;
}
