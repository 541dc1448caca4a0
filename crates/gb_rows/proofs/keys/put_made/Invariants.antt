use Rattle.std.proofs.Common.{◌≤◌, length, map, max, min}
use Rattle.gb_defs.specs.Slices.{between}
use Rattle.gb_rows.specs.Cells.{bytes_held}
use Rattle.gb_rows.proofs.keys.put_made.Given as goal

-- the cells so far
abbrev pub invariant-loop-row : goal.invariant-loop-row
invariant-loop-row g l = record {
  taken : g.S.CellSink.HasTaken (map bytes_held (between l.start l.row l.cells.slots)) l.initial.sink l.sink;
  low : l.start ≤ l.row;
  high : l.row ≤ max l.start (min l.end (length l.cells.slots));
}
