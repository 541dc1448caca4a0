use Rattle.std.proofs.Common.{◌≡◌, ◌≤◌, length, map, vec_capacity}
use Rattle.gb_paths.specs.Leaders.{led, led_partitions}
use Rattle.gb_paths.proofs.number_partitions.lead_range.Given as goal

abbrev pub invariant-loop-place : goal.invariant-loop-place
invariant-loop-place g l = record {
  so_far : map led l.parts.items ≡ led_partitions (g.R.KeyRows.rows l.rows) l.shares (l.start, l.place);
  each : length l.parts.items ≡ l.place;
  room : l.count ≤ vec_capacity l.parts;
}
