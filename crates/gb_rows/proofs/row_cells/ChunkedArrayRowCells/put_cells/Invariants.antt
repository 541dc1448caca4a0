use Rattle.std.proofs.Common.{◌++◌, drop, map}
use Rattle.std.specs.List.{flat_map}
use Rattle.gb_defs.specs.RowBytes.{slot_bytes}
use Rattle.gb_defs.specs.Slices.{between}
use Rattle.gb_rows.proofs.row_cells.ChunkedArrayRowCells.put_cells.Given as goal

-- the cells that are left are what is missing of all
abbrev pub invariant-loop-chunk : goal.invariant-loop-chunk
invariant-loop-chunk g l =
    let cells = map (slot_bytes g.V.Values.dtype) in
    let left = flat_map (λ chunk. chunk) (drop l.chunk-index l.earlier) ++ l.last in
    let all = flat_map (λ chunk. chunk) l.earlier ++ l.last in
    (after : _) → g.S.CellSink.HasTaken (cells (between l.start l.end left)) l.sink after → g.S.CellSink.HasTaken (cells (between l.fn.start l.fn.end all)) l.initial.sink after
