use Rattle.std.proofs.Common.{arith, ◌≡◌, ◌≤◌, length, ap, ◌∙◌}
use Rattle.gb_groups.specs.Numbers.{counts_by}
use Rattle.gb_groups.proofs.NumberLemmas.{counted_all}
use Rattle.gb_groups.proofs.row_lists.count_rows.Goals as goal

pub returns : goal.returns
returns c =
    let all : length c.args.numbers.now ≤ c.loop-number.number-index = omega arith in
    let long : length c.loop-number.counts ≡ length c.args.counts.now = omega arith in
    counted_all c.args.numbers.now c.loop-number.number-index c.loop-number.counts all c.loop-number.invariant ∙ ap (counts_by c.args.numbers.now) long
