use Rattle.std.proofs.Common.{◌≡◌, true, arith, rules}
use Rattle.std.specs.Char.{digit_value, is_ascii_digit}
use Rattle.std.proofs.lemmas.Bool.Decides.{nat_tests}
use Rattle.gb_numbers.proofs.DecimalLemmas.{run_large}
use Rattle.gb_numbers.proofs.decimal_cell.wide_run.Goals as goal

pub returns-in_err-checked_mul : goal.returns-in_err-checked_mul
returns-in_err-checked_mul c =
    let is : is_ascii_digit c.in-Some.digit.now ≡ true = search rules in
    let large = run_large c.loop-digit.value _ _ _ c.in-Some.ensures.cases.0 is (omega (arith, c.in_err-checked_mul.ensures)) in
    rw c.from_residual.ensures (rw c.loop-digit.invariant.number at large)

pub returns-in_err-value : goal.returns-in_err-value
returns-in_err-value c =
    let is : is_ascii_digit c.in-Some.digit.now ≡ true = search rules in
    let value : digit_value c.in-Some.digit.now ≡ c.from.result = grind (arith, nat_tests) in
    let large = run_large c.loop-digit.value _ _ _ c.in-Some.ensures.cases.0 is (omega (arith, value, c.in_err-value.ensures, c.in_ok-checked_mul.ensures.1)) in
    rw c.from_residual-in_err-value.ensures (rw c.loop-digit.invariant.number at large)
