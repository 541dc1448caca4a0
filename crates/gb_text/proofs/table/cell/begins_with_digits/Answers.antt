use Rattle.std.proofs.Common.{arith}
use Rattle.gb_text.proofs.DigitsLemmas.{few_digits}
use Rattle.gb_text.proofs.table.cell.begins_with_digits.Goals as goal

pub returns : goal.returns
returns c =
    few_digits c.args.text.now c.args.count (omega arith) (omega arith) (omega arith)
    (λ k lt. c.count_high.ensures.high k (omega (arith, lt))) (λ k lt. c.count_low.ensures.low k (omega (arith, lt)))
