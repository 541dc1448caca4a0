use Rattle.std.proofs.Common.{◌+◌, length, arith}
use Rattle.std.proofs.lemmas.List.{drop_all, take_rest}
use Rattle.gb_text.proofs.PlainLemmas.{scan_high, scan_more, cut_comma, cut_feed, cut_end, cut_return}
use Rattle.gb_text.proofs.table.cell.next_cell.Goals as goal

pub loop-i-init : goal.loop-i-init
loop-i-init c = scan_high c.args.text.now c.count_skipped-i.result c.count_skipped-i.ensures.within c.count_skipped-i.ensures.high

pub loop-i-preserved-then-byte-gt44 : goal.loop-i-preserved-then-byte-gt44
loop-i-preserved-then-byte-gt44 c = scan_more c.args.text.now c.loop-i.i c.loop-i.invariant (omega arith) (omega arith) (omega arith) (omega arith) (omega arith)

pub returns-then-byte-eq44 : goal.returns-then-byte-eq44
returns-then-byte-eq44 c = rw (take_rest c.args.text.now (c.loop-i.i + 1)) (cut_comma c.args.text.now c.loop-i.i c.loop-i.invariant (omega arith) (omega arith))

pub returns-then-byte-eq10 : goal.returns-then-byte-eq10
returns-then-byte-eq10 c = rw (take_rest c.args.text.now (c.loop-i.i + 1)) (cut_feed c.args.text.now c.loop-i.i c.loop-i.invariant (omega arith) (omega arith))

pub loop-i-preserved : goal.loop-i-preserved
loop-i-preserved c = scan_more c.args.text.now c.loop-i.i c.loop-i.invariant (omega arith) (omega arith) (omega arith) (omega arith) (omega arith)

pub returns-then-byte-eq13 : goal.returns-then-byte-eq13
returns-then-byte-eq13 c =
    cut_return c.args.text.now c.loop-i.i c.loop-i.invariant (omega arith) c.behind_return.result.now (omega arith) (rw (take_rest c.args.text.now (c.loop-i.i + 1)) at c.behind_return.ensures)

pub returns : goal.returns
returns c =
    rw (take_rest c.args.text.now (length c.args.text.now), drop_all (length c.args.text.now) c.args.text.now (omega arith))
    (cut_end c.args.text.now c.loop-i.i c.loop-i.invariant (omega arith))
