use Rattle.std.proofs.Common.{◌≡◌, ◌+◌, ◌-◌, ◌≤◌, ◌++◌, take, length, map, vec_len, vec_capacity}
use Rattle.gb_series.proofs.nested.rows.push_ends.Given as goal

abbrev pub invariant-loop-end : goal.invariant-loop-end
invariant-loop-end l = record {
  items : l.ends.items ≡ l.fn.ends.items ++ map (λ end. l.by + end) (take l.end-index l.more);
  room : vec_len l.ends + (length l.more - l.end-index) ≤ vec_capacity l.ends;
}
