use Rattle.std.proofs.Common.{◌≡◌, ◌^◌, ◌≤◌, get_or, arith, rules, true}
use Rattle.std.specs.Char.{digit_value, is_ascii_digit}
use Rattle.std.proofs.lemmas.Bool.Decides.{nat_tests}
use Rattle.gb_numbers.proofs.DigitLemmas.{digit_more, digits_end, short_fits, short_more, short_room}
use Rattle.gb_numbers.proofs.number_cell.short_magnitude.Goals as goal

pub overflow_mul-value : goal.overflow_mul-value
overflow_mul-value c = let room = short_room c.loop-digit.digit-index c.loop-digit.value c.loop-digit.invariant.1 (omega arith) in omega (arith, room)

pub overflow_add-value : goal.overflow_add-value
overflow_add-value c =
    let room = short_room c.loop-digit.digit-index c.loop-digit.value c.loop-digit.invariant.1 (omega arith) in
    let digit : c.from.result ≤ 9 = grind (arith, nat_tests) in
    omega (arith, room, digit)

pub loop-digit-preserved : goal.loop-digit-preserved
loop-digit-preserved c =
    let digit : c.from.result ≤ 9 = grind (arith, nat_tests) in
    let is : is_ascii_digit (get_or c.args.digits.now c.loop-digit.digit-index 0) ≡ true = search rules in
    let value : digit_value (get_or c.args.digits.now c.loop-digit.digit-index 0) ≡ c.from.result = grind (arith, nat_tests) in
    (rw value at (digit_more (2 ^ 64) c.args.digits.now c.loop-digit.digit-index c.loop-digit.value c.loop-digit-test.true c.loop-digit.invariant.0 is), short_more c.loop-digit.digit-index c.loop-digit.value c.loop-digit.invariant.1 c.from.result digit)

pub returns : goal.returns
returns c =
    digits_end (2 ^ 64) c.args.digits.now c.loop-digit.digit-index c.loop-digit.value c.loop-digit-test.false
    (short_fits c.loop-digit.digit-index c.loop-digit.value c.loop-digit.invariant.1 (omega arith)) c.loop-digit.invariant.0
