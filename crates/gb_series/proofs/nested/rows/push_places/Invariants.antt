use Rattle.std.proofs.Common.{◌≡◌, ◌-◌, ◌≤◌, ◌++◌, max}
use Rattle.std.specs.List.{range_with_len}
use Rattle.gb_series.proofs.nested.rows.push_places.Given as goal

abbrev pub invariant-loop-place : goal.invariant-loop-place
invariant-loop-place l = record {
  items : l.places.items ≡ l.fn.places.items ++ range_with_len l.start (l.place - l.start);
  low : l.start ≤ l.place;
  high : l.place ≤ max l.start l.end;
}
