use Rattle.std.proofs.Common.{◌≡◌, ◌≤◌, length, vec_capacity}
use Rattle.gb_paths.specs.Partitions.{groups_of_partitions, groups_of_parts}
use Rattle.gb_paths.proofs.threaded.group_partitions.Given as goal

abbrev pub invariant-loop-place : goal.invariant-loop-place
invariant-loop-place g l = record {
  so_far : groups_of_parts l.parts.items ≡ groups_of_partitions (g.R.KeyRows.rows l.rows) l.shares (l.start, l.place);
  each : length l.parts.items ≡ l.place;
  room : l.count ≤ vec_capacity l.parts;
}
