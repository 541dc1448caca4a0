use Rattle.std.proofs.Common.{◌≡◌, ◌++◌, ◌+◌, ◌-◌, ◌≤◌, length, take, vec_capacity, vec_len}
use Rattle.gb_agg.proofs.lists.push_rows.Given as goal

abbrev pub invariant-loop-place : goal.invariant-loop-place
invariant-loop-place g l = record {
  items : l.rows.items ≡ l.fn.rows.items ++ take l.place (g.R.GroupRows.rows l.more);
  room : vec_len l.rows + (length (g.R.GroupRows.rows l.more) - l.place) ≤ vec_capacity l.rows;
}
