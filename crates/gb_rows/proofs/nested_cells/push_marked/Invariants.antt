use Rattle.std.proofs.Common.{◌≡◌, ◌++◌, ◌≤◌}
use Rattle.gb_defs.specs.Slices.{between}
use Rattle.gb_rows.specs.Cells.{marked}
use Rattle.gb_rows.proofs.nested_cells.push_marked.Given as goal

-- the cells so far
abbrev pub invariant-loop-place : goal.invariant-loop-place
invariant-loop-place l = record {
  low : l.start ≤ l.place;
  cells : l.cell.items ≡ l.fn.cell.items ++ marked l.mark (between l.start l.place l.items);
}
