use Rattle.std.proofs.Common.{arith}
use Rattle.gb_numbers.proofs.DecimalLemmas.{short_before}
use Rattle.gb_numbers.proofs.decimal_cell.digit_run.Goals as goal

pub overflow_cast-before : goal.overflow_cast-before
overflow_cast-before c = let few = short_before c.args.before c.args.bytes.now (c.requires c.if-not-is_short.false) in omega (arith, few)
