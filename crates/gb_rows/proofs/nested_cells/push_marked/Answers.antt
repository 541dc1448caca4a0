use Rattle.std.proofs.Common.{◌<◌, ◌++◌, length, arith, ap, ◌∙◌}
use Rattle.gb_rows.proofs.ItemLemmas.{item_more}
use Rattle.gb_rows.proofs.nested_cells.push_marked.Goals as goal

pub loop-place-preserved : goal.loop-place-preserved
loop-place-preserved c =
    let loop = c.loop-place in
    let items = c.args.items.now in
    let mark = c.args.mark.now in
    let inside : loop.place < length items = omega (arith, c.loop-place-test.true, loop.auto.place-end, c.requires.high, c.requires.low) in
    let both = c.in_ok-extend_from_slice-2.ensures.items ∙ ap (λ l. l ++ c.get.result.now) c.in_ok-extend_from_slice.ensures.items ∙ ap (λ l. (loop.cell.items ++ mark) ++ l) c.get.ensures in
    record {
      low = omega (arith, loop.invariant.low);
      cells = both ∙ item_more c.args.start loop.place items mark c.args.cell.now.items loop.cell.items loop.invariant.low inside loop.invariant.cells;
    }
