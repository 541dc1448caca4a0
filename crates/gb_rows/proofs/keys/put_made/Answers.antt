use Rattle.std.proofs.Common.{◌<◌, ◌≤◌, ◌-◌, ◌∷◌, [], List, ℕ, length, map, min, ap, arith, subst, ◌∙◌}
use Rattle.gb_values.proofs.ValueLemmas.{part_mapped}
use Rattle.gb_rows.specs.Cells.{bytes_held}
use Rattle.gb_rows.proofs.RangeLemmas.{between_done, taken_more}
use Rattle.gb_rows.proofs.keys.put_made.Goals as goal

pub loop-row-preserved : goal.loop-row-preserved
loop-row-preserved g c =
    let slots = c.args.cells.now.slots in
    let loop = c.loop-row in
    let lt : loop.row < length slots = omega (arith, c.loop-row-test.true, loop.auto.row-end, c.min-row-end.ensures, c.len.ensures.value) in
    let here = subst (λ (bytes : List ℕ). g.S.CellSink.HasTaken (bytes ∷ []) loop.sink c.put.new.self) c.made_cell.ensures c.in_ok-put.ensures in
    record {
      taken = taken_more g.S.CellSink.HasTaken g.met.S.CellSink.took_more bytes_held slots c.args.start loop.row c.args.sink.now loop.sink c.put.new.self loop.invariant.low lt loop.invariant.taken here;
      low = omega (arith, loop.invariant.low);
      high = omega (arith, lt, c.loop-row-test.true, c.min-row-end.ensures, c.len.ensures.value);
    }

pub returns : goal.returns
returns g c =
    let slots = c.args.cells.now.slots in
    let loop = c.loop-row in
    let done : min c.args.end (length slots) ≤ loop.row = omega (arith, c.loop-row-test.false, loop.auto.row-end, loop.invariant.low, c.min-row-end.ensures, c.len.ensures.value) in
    let all = ap (map bytes_held) (between_done c.args.start c.args.end loop.row slots loop.invariant.low loop.invariant.high done) ∙ part_mapped bytes_held slots c.args.start (c.args.end - c.args.start) in
    subst (λ (cells : List (List ℕ)). g.S.CellSink.HasTaken cells c.args.sink.now loop.sink) all loop.invariant.taken
