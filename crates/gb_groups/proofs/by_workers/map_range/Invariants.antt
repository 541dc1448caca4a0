use Rattle.std.proofs.Common.{◌≡◌, ◌≤◌, length, vec_capacity}
use Rattle.gb_groups.specs.Workers.{GivesFrom}
use Rattle.gb_groups.proofs.by_workers.map_range.Given as goal

abbrev pub invariant-loop-place : goal.invariant-loop-place
invariant-loop-place g l = record {
  made : length l.made.items ≡ l.place;
  room : l.range.1 ≤ vec_capacity l.made;
  each : GivesFrom g.F.Fn l.f l.range.0 l.place l.made.items;
}
