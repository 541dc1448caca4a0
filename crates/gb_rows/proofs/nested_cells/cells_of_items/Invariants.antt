use Rattle.std.proofs.Common.{◌≡◌, length, map, take}
use Rattle.gb_defs.specs.RowBytes.{slot_bytes}
use Rattle.gb_rows.specs.Cells.{made_cells}
use Rattle.gb_rows.proofs.nested_cells.cells_of_items.Given as goal

-- the cells of the rows so far
abbrev pub invariant-loop-row : goal.invariant-loop-row
invariant-loop-row g l = record {
  cells : made_cells l.made ≡ map (slot_bytes (g.C.SeriesTrait.value l.column).dtype) (take l.row (g.C.SeriesTrait.value l.column).slots);
  many : length l.made.slots ≡ l.row;
}
