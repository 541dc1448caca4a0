use Rattle.std.proofs.Common.{◌≡◌, ◌^◌, ◌∙◌, get_or, arith}
use Rattle.std.specs.Char.{digit_value}
use Rattle.std.proofs.lemmas.Bool.Decides.{nat_tests}
use Rattle.gb_numbers.proofs.DigitLemmas.{digits_end, too_large}
use Rattle.gb_numbers.proofs.number_cell.wide_magnitude.Goals as goal

pub returns-in_err-checked_mul : goal.returns-in_err-checked_mul
returns-in_err-checked_mul c =
    c.from_residual.ensures ∙ too_large (2 ^ 128) c.args.digits.now c.loop-digit.digit-index c.loop-digit.value c.loop-digit-test.true c.loop-digit.invariant.0 (omega (arith, c.in_err-checked_mul.ensures))

pub returns-in_err-value : goal.returns-in_err-value
returns-in_err-value c =
    let digit : digit_value (get_or c.args.digits.now c.loop-digit.digit-index 0) ≡ c.from.result = grind (arith, nat_tests) in
    c.from_residual-in_err-value.ensures
    ∙ too_large (2 ^ 128) c.args.digits.now c.loop-digit.digit-index c.loop-digit.value c.loop-digit-test.true c.loop-digit.invariant.0 (omega (arith, c.in_err-value.ensures, c.in_ok-checked_mul.ensures.1))

pub returns : goal.returns
returns c = digits_end (2 ^ 128) c.args.digits.now c.loop-digit.digit-index c.loop-digit.value c.loop-digit-test.false c.loop-digit.invariant.1 c.loop-digit.invariant.0
