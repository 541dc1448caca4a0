use Rattle.std.proofs.Common.{◌≤◌, length, map, max, min}
use Rattle.gb_defs.specs.ColumnType.{Flat}
use Rattle.gb_defs.specs.RowBytes.{slot_bytes}
use Rattle.gb_defs.specs.Slices.{between}
use Rattle.gb_rows.proofs.row_cells.NumberValuesCellValues.put_chunk.Given as goal

-- the cells of the slots so far
abbrev pub invariant-loop-i : goal.invariant-loop-i
invariant-loop-i g l = record {
  taken : g.S.CellSink.HasTaken (map (slot_bytes (Flat g.T.Native.Native.flat)) (between l.start l.i l.chunk)) l.initial.sink l.sink;
  low : l.start ≤ l.i;
  high : l.i ≤ max l.start (min l.end (length l.chunk));
}
