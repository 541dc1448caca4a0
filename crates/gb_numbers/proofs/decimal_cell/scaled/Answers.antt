use Rattle.std.proofs.Common.{◌∙◌, arith}
use Rattle.gb_numbers.proofs.DecimalLemmas.{power_more, power_large}
use Rattle.gb_numbers.proofs.decimal_cell.scaled.Goals as goal

pub returns-in_err-product : goal.returns-in_err-product
returns-in_err-product c =
    rw c.from_residual.ensures (power_large c.args.number c.loop.counter c.loop.product c.loop.invariant.0 c.args.places c.loop-test.true (omega (arith, c.in_err-product.ensures)))

pub loop-preserved : goal.loop-preserved
loop-preserved c = (c.in_ok-product.ensures.1 ∙ power_more c.args.number c.loop.counter c.loop.product c.loop.invariant.0, c.loop.invariant.1)
