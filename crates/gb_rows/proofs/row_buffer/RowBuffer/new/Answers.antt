use Rattle.std.proofs.Common.{◌≡◌, ◌≤◌, ◌∙◌, length, arith}
use Rattle.gb_rows.proofs.BufferLemmas.{all_cursors, all_ends, all_last, empty_laid, empty_view}
use Rattle.gb_rows.proofs.row_buffer.RowBuffer.new.Goals as goal

pub invariant_of-result : goal.invariant_of-result
invariant_of-result c =
    let counts = c.args.lengths.now in
    let loop = c.loop-count in
    let done : length counts ≤ loop.count-index = omega (arith, c.loop-count-test.false, loop.auto.count-index-end) in
    let ends = all_ends counts loop.ends.items loop.cursors.items loop.end loop.count-index done loop.invariant.ends in
    let cursors = all_cursors counts loop.ends.items loop.cursors.items loop.end loop.count-index done loop.invariant.cursors in
    let last = all_last counts loop.ends.items loop.cursors.items loop.end loop.count-index done loop.invariant.last in
    let long : length c.in_ok-vec.field-0.items ≡ loop.end = omega (arith, c.in_ok-vec.ensures.len, c.in_ok-vec.field-0.ok.0) in
    empty_laid counts loop.ends.items loop.cursors.items c.in_ok-vec.field-0.items ends cursors (long ∙ last)

pub returns : goal.returns
returns c =
    let counts = c.args.lengths.now in
    let loop = c.loop-count in
    let done : length counts ≤ loop.count-index = omega (arith, c.loop-count-test.false, loop.auto.count-index-end) in
    let ends = all_ends counts loop.ends.items loop.cursors.items loop.end loop.count-index done loop.invariant.ends in
    let cursors = all_cursors counts loop.ends.items loop.cursors.items loop.end loop.count-index done loop.invariant.cursors in
    empty_view counts loop.ends.items loop.cursors.items c.in_ok-vec.field-0.items ends cursors
