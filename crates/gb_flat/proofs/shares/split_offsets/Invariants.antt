use Rattle.std.proofs.Common.{◌≡◌, ◌≤◌, length, map, vec_capacity}
use Rattle.std.specs.List.{range_with_len}
use Rattle.gb_defs.specs.Flat.{range_at}
use Rattle.gb_flat.proofs.shares.split_offsets.Given as goal

abbrev pub invariant-loop-k : goal.invariant-loop-k
invariant-loop-k l = record {
  ranges : l.ranges.items ≡ map (range_at l.len l.n) (range_with_len 0 l.k);
  so_far : length l.ranges.items ≡ l.k;
  room : l.n ≤ vec_capacity l.ranges;
}
