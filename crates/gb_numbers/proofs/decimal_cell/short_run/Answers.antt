use Rattle.std.proofs.Common.{◌≡◌, ◌≤◌, ◌∙◌, sym, true, arith, rules}
use Rattle.std.specs.Char.{digit_value, is_ascii_digit}
use Rattle.std.proofs.lemmas.Bool.Decides.{nat_tests}
use Rattle.gb_numbers.proofs.DecimalLemmas.{behind_more, run_more, short_digit, short_more}
use Rattle.gb_numbers.proofs.decimal_cell.short_run.Goals as goal

pub overflow_mul-value : goal.overflow_mul-value
overflow_mul-value c = let room = short_digit c.loop-digit.value c.loop-digit.left.now c.loop-digit.invariant.fits (omega (arith, c.in-Some.ensures.cases.1)) in omega (arith, room)

pub overflow_add-value : goal.overflow_add-value
overflow_add-value c =
    let room = short_digit c.loop-digit.value c.loop-digit.left.now c.loop-digit.invariant.fits (omega (arith, c.in-Some.ensures.cases.1)) in
    let digit : c.from.result ≤ 9 = grind (arith, nat_tests) in
    omega (arith, room, digit)

pub loop-digit-preserved : goal.loop-digit-preserved
loop-digit-preserved c =
    let digit : c.from.result ≤ 9 = grind (arith, nat_tests) in
    let is : is_ascii_digit c.in-Some.digit.now ≡ true = search rules in
    let value : digit_value c.in-Some.digit.now ≡ c.from.result = grind (arith, nat_tests) in
    let first = c.in-Some.ensures.cases in
    let inv = c.loop-digit.invariant in
    record {
      number = sym (rw value at (run_more c.loop-digit.value _ _ _ first.0 is)) ∙ inv.number;
      behind = sym (behind_more c.loop-digit.value _ _ _ first.0 is) ∙ inv.behind;
      fits = short_more c.loop-digit.value c.loop-digit.left.now inv.fits c.from.result c.in-Some.rest.now digit first.1;
    }
