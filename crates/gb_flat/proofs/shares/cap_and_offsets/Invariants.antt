use Rattle.std.proofs.Common.{◌≡◌, ◌≤◌, length, map, take, vec_capacity}
use Rattle.std.specs.List.{sum_by}
use Rattle.gb_defs.specs.Flat.{starts_from}
use Rattle.gb_flat.proofs.shares.cap_and_offsets.Given as goal

abbrev pub invariant-loop-list : goal.invariant-loop-list
invariant-loop-list g l = record {
  total : l.total ≡ sum_by (λ list. length list.items) (take l.list-index l.v);
  starts : l.starts.items ≡ starts_from 0 (map (λ list. length list.items) (take l.list-index l.v));
  so_far : length l.starts.items ≡ l.list-index;
  room : length l.v ≤ vec_capacity l.starts;
}
