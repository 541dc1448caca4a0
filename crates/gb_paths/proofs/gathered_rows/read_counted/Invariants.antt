use Rattle.std.proofs.Common.{◌≡◌, ◌≤◌, length, map, take, vec_capacity}
use Rattle.gb_paths.proofs.gathered_rows.read_counted.Given as goal

abbrev pub invariant-loop-place : goal.invariant-loop-place
invariant-loop-place g l = record {
  so_far : map g.R.KeyRows.key_slot l.keys.items ≡ map (g.R.KeyRows.rows l.rows).slot (take l.place l.members);
  each : length l.keys.items ≡ l.place;
  room : length l.members ≤ vec_capacity l.keys;
}
