use Rattle.std.proofs.Common.{◌≤◌, ◌<◌, length, map, arith, ap, ◌∙◌}
use Rattle.gb_defs.specs.Slices.{between}
use Rattle.gb_rows.specs.Cells.{longer}
use Rattle.gb_rows.specs.Zipped.{zip_onto}
use Rattle.gb_rows.proofs.LaidLemmas.{laid_done, laid_lengths, laid_more, zipped_all}
use Rattle.gb_rows.proofs.encode.lengths_of.Goals as goal

pub loop-column-preserved : goal.loop-column-preserved
loop-column-preserved g c =
    let columns = c.args.columns.now in
    let loop = c.loop-column in
    let cells = g.C.RowCells.cells in
    let lt : loop.column-index < length columns = omega (arith, c.loop-column-test.true, loop.auto.column-index-end) in
    let start = c.rewind.new.self in
    let end = c.put_cells.new.sink in
    let new = zipped_all longer (between c.args.start c.args.end (cells c.column-item.result)) start.lengths.items start.next end.lengths.items end.next c.rewind.ensures.first c.in_ok-put_cells.ensures
    ∙ ap (zip_onto longer (between c.args.start c.args.end (cells c.column-item.result))) c.rewind.ensures.rows in
    laid_more longer cells c.args.start c.args.end columns loop.column-index c.column-item.result loop.lengths.lengths.items end.lengths.items lt c.column-item.is new ∙ loop.invariant

pub returns : goal.returns
returns g c =
    let columns = c.args.columns.now in
    let loop = c.loop-column in
    let done : length columns ≤ loop.column-index = omega (arith, c.loop-column-test.false, loop.auto.column-index-end) in
    c.into_lengths.ensures
    ∙ laid_done longer g.C.RowCells.cells c.args.start c.args.end columns loop.column-index loop.lengths.lengths.items _ done loop.invariant
    ∙ laid_lengths (map g.C.RowCells.cells columns) c.args.start c.args.end c.in_ok-lengths.lengths.lengths.items c.requires.order c.requires.long c.in_ok-lengths.ensures.rows
