use Rattle.std.proofs.Common.{◌≤◌, ◌<◌, List, [], ℕ, replicate, length, map, arith, ap, ◌∙◌}
use Rattle.gb_defs.specs.Slices.{between}
use Rattle.gb_rows.specs.Buffer.{RowsWritten}
use Rattle.gb_rows.specs.Cells.{behind}
use Rattle.gb_rows.specs.Zipped.{zip_onto}
use Rattle.gb_rows.proofs.LaidLemmas.{laid_done, laid_more, laid_rows, no_bytes, zipped_all}
use Rattle.gb_rows.proofs.encode.write.Goals as goal

pub loop-column-preserved : goal.loop-column-preserved
loop-column-preserved g c =
    let columns = c.args.columns.now in
    let loop = c.loop-column in
    let cells = g.C.RowCells.cells in
    let lt : loop.column-index < length columns = omega (arith, c.loop-column-test.true, loop.auto.column-index-end) in
    let start = c.rewind.new.self in
    let end = c.put_cells.new.sink in
    let taken = c.in_ok-put_cells.ensures in
    let first = ap (λ (v : RowsWritten). v.next) c.rewind.ensures in
    let same = ap (λ (v : RowsWritten). v.rows) c.rewind.ensures in
    let room = ap (λ (v : RowsWritten). v.room) c.rewind.ensures in
    let new = zipped_all behind (between c.args.start c.args.end (cells c.column-item.result)) start.rows start.next end.rows end.next first taken.rows
    ∙ ap (zip_onto behind (between c.args.start c.args.end (cells c.column-item.result))) same in
    record {
      rows = laid_more behind cells c.args.start c.args.end columns loop.column-index c.column-item.result loop.rows.rows end.rows lt c.column-item.is new ∙ loop.invariant.rows;
      room = taken.room ∙ room ∙ loop.invariant.room;
    }

pub returns-clause-rows : goal.returns-clause-rows
returns-clause-rows g c =
    let columns = c.args.columns.now in
    let loop = c.loop-column in
    let done : length columns ≤ loop.column-index = omega (arith, c.loop-column-test.false, loop.auto.column-index-end) in
    let empty = ap (λ (v : RowsWritten). v.rows) c.in_ok-rows.ensures ∙ no_bytes c.args.lengths.now ∙ ap (λ n. replicate {A = List ℕ} n []) c.requires.each in
    laid_done behind g.C.RowCells.cells c.args.start c.args.end columns loop.column-index loop.rows.rows _ done loop.invariant.rows
    ∙ laid_rows (map g.C.RowCells.cells columns) c.args.start c.args.end c.in_ok-rows.rows.rows c.requires.order c.requires.long empty
