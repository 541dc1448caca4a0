use Rattle.std.proofs.Common.{◌≤◌, length, map, max, min}
use Rattle.gb_defs.specs.RowBytes.{slot_bytes}
use Rattle.gb_defs.specs.Slices.{between}
use Rattle.gb_rows.proofs.row_cells.NullChunkedRowCells.put_cells.Given as goal

-- the cells of the rows so far
abbrev pub invariant-loop : goal.invariant-loop
invariant-loop g l = record {
  taken : g.S.CellSink.HasTaken (map (slot_bytes l.self.dtype) (between l.start l.counter l.self.slots)) l.initial.sink l.sink;
  low : l.start ≤ l.counter;
  high : l.counter ≤ max l.start (min l.end (length l.self.slots));
}
