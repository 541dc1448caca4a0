use Rattle.std.proofs.Common.{◌<◌, ◌+◌, arith}
use lib.Count.{count_trailing_zeros}
use Rattle.std.proofs.lemmas.List.{take_rest}
use Rattle.gb_text.proofs.MarkLemmas.{marked_rest, place_high, place_inside}
use Rattle.gb_text.proofs.PlainLemmas.{cut_comma, cut_feed, scan_high}
use Rattle.gb_text.proofs.table.cell.marked_cell.Goals as goal

pub bounds-text-count : goal.bounds-text-count
bounds-text-count c = place_inside c.args.text.now c.args.marks c.requires (omega arith)

pub bounds-text-count-2 : goal.bounds-text-count-2
bounds-text-count-2 c = place_inside c.args.text.now c.args.marks c.requires (omega arith)

pub returns-then-text-count-eq44-clause-cut : goal.returns-then-text-count-eq44-clause-cut
returns-then-text-count-eq44-clause-cut c =
    let text = c.args.text.now in
    let marks = c.args.marks in
    let place = count_trailing_zeros 64 marks in
    let some : 0 < marks = omega arith in
    let inside = place_inside text marks c.requires some in
    let scanned = scan_high text place (omega (arith, inside)) (place_high text marks c.requires some) in
    rw (take_rest text (place + 1)) (cut_comma text place scanned inside c.if-text-count-eq44.true)

pub returns-then-text-count-eq44-clause-marks : goal.returns-then-text-count-eq44-clause-marks
returns-then-text-count-eq44-clause-marks c = rw (take_rest c.args.text.now (count_trailing_zeros 64 c.args.marks + 1)) (marked_rest c.args.text.now c.args.marks c.requires (omega arith))

pub returns-then-text-count-eq10-clause-cut : goal.returns-then-text-count-eq10-clause-cut
returns-then-text-count-eq10-clause-cut c =
    let text = c.args.text.now in
    let marks = c.args.marks in
    let place = count_trailing_zeros 64 marks in
    let some : 0 < marks = omega arith in
    let inside = place_inside text marks c.requires some in
    let scanned = scan_high text place (omega (arith, inside)) (place_high text marks c.requires some) in
    rw (take_rest text (place + 1)) (cut_feed text place scanned inside c.if-text-count-eq10.true)

pub returns-then-text-count-eq10-clause-marks : goal.returns-then-text-count-eq10-clause-marks
returns-then-text-count-eq10-clause-marks c = rw (take_rest c.args.text.now (count_trailing_zeros 64 c.args.marks + 1)) (marked_rest c.args.text.now c.args.marks c.requires (omega arith))
