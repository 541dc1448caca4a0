use Rattle.std.proofs.Common.{◌≡◌, drop, map}
use Rattle.gb_defs.specs.Slices.{between}
use Rattle.gb_rows.specs.Cells.{longer}
use Rattle.gb_rows.specs.Rows.{laid}
use Rattle.gb_rows.proofs.encode.lengths_of.Given as goal

-- with the columns that are left the rows come to what they come to with all
abbrev pub invariant-loop-column : goal.invariant-loop-column
invariant-loop-column g l =
    laid longer (map (between l.start l.end) (map g.C.RowCells.cells (drop l.column-index l.columns))) l.lengths.lengths.items ≡ laid longer (map (between l.start l.end) (map g.C.RowCells.cells l.columns)) l.initial.lengths.lengths.items
