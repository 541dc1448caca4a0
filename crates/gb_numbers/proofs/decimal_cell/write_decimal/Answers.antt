use Rattle.std.proofs.Common.{◌<◌, ◌^◌, decimal, ◌∙◌, ap, arith}
use Rattle.std.specs.Int.{w128}
use Rattle.std.proofs.lemmas.Int.{to_z-of_z}
use Rattle.gb_numbers.proofs.DecimalTextLemmas.{decimal_written}
use Rattle.gb_numbers.proofs.decimal_cell.write_decimal.Goals as goal

pub returns : goal.returns
returns c =
    let z = c.args.number in
    let passed = to_z-of_z w128 z c.ranges.number in
    let value = rw passed at c.unsigned_abs.ensures.value in
    let few : c.unsigned_abs.result < 10 ^ 64 = omega (arith, c.unsigned_abs.ensures.bound) in
    let digits = c.as_bytes.ensures.value ∙ c.format.ensures.text ∙ ap decimal value in
    let written = decimal_written c.args.scale z c.args.to.now.items c.write_minus.new.to.items c.as_bytes.result.now (rw value at few) (rw passed at c.in_ok-write_minus.ensures) digits in
    rw written at c.write_pointed.ensures
