use Rattle.std.proofs.Common.{◌≡◌, ◌≤◌, map, length}
use Rattle.gb_series.specs.Append.{CanUndoFrom, undone_from}
use Rattle.gb_series.specs.Series.{value_of}
use Rattle.gb_series.proofs.append.undo_from.Given as goal

abbrev pub invariant-loop-place : goal.invariant-loop-place
invariant-loop-place l = record {
  long : length l.columns.items ≡ length l.fn.columns.items;
  marked : length l.fn.columns.items ≤ length l.marks;
  fits : CanUndoFrom l.place l.marks (map value_of l.columns.items);
  same : undone_from l.fn.start l.marks (map value_of l.fn.columns.items) ≡ undone_from l.place l.marks (map value_of l.columns.items);
}
