use Rattle.std.proofs.Common.{◌≡◌, drop, map}
use Rattle.gb_defs.specs.Slices.{between}
use Rattle.gb_rows.specs.Cells.{behind}
use Rattle.gb_rows.specs.Rows.{laid}
use Rattle.gb_rows.proofs.encode.write.Given as goal

-- with the columns that are left the rows come to what they come to with all
abbrev pub invariant-loop-column : goal.invariant-loop-column
invariant-loop-column g l = record {
  rows : laid behind (map (between l.start l.end) (map g.C.RowCells.cells (drop l.column-index l.columns))) l.rows.rows ≡ laid behind (map (between l.start l.end) (map g.C.RowCells.cells l.columns)) l.initial.rows.rows;
  room : l.rows.room ≡ l.lengths;
}
