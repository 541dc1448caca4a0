use Rattle.std.proofs.Common.{◌≡◌, ◌<◌, ◌∷◌, ◌∙◌, [], sym, ap, length, arith, inl, inr, Some}
use Rattle.std.proofs.lemmas.Bool.{eqb-true, ne_eqb}
use Rattle.std.proofs.lemmas.Bool.Decides.{nat_tests}
use Rattle.std.specs.Str.Parse.{digits_value_after}
use Rattle.gb_numbers.specs.Decimal.{front_digits, behind_digits}
use Rattle.gb_numbers.proofs.DecimalLemmas.{empty_list, front_large, no_point, only_point, part_bad, part_large, part_number, whole_number}
use Rattle.gb_numbers.proofs.decimal_cell.parts_of.Goals as goal

pub returns-in_err-whole : goal.returns-in_err-whole
returns-in_err-whole c = c.from_residual.ensures ∙ front_large c.args.bytes.now c.in_err-whole.ensures.run

pub returns-else-is_empty : goal.returns-else-is_empty
returns-else-is_empty c =
    let bs = c.args.bytes.now in
    let run = c.in_ok-whole.ensures.run in
    let all : behind_digits bs ≡ [] = sym run.behind ∙ empty_list c.in_ok-whole.rest.now c.in_default.ensures.cases in
    let some : 0 < length bs = grind (arith, nat_tests, c.is_empty.ensures, c.if-is_empty.false) in
    ap (λ n. Some (n, 0)) run.number ∙ whole_number bs all some (omega (arith, run.number, run.few))

pub returns-then-point-ne46 : goal.returns-then-point-ne46
returns-then-point-ne46 c =
    let bs = c.args.bytes.now in
    let behind = sym c.in_ok-whole.ensures.run.behind ∙ c.in-Some.ensures.cases.0 in
    elim c.then-point-ne46.either [
      | inl other ↦ no_point bs c.in-Some.point.now c.in-Some.part.now behind (ne_eqb c.in-Some.point.now 46 other)
      | inr one ↦ only_point bs c.in-Some.part.now (behind ∙ ap (λ p. p ∷ c.in-Some.part.now) one.0) one.1
    ]

pub returns-in_err-value : goal.returns-in_err-value
returns-in_err-value c =
    let bs = c.args.bytes.now in
    let part = c.in-Some.part.now in
    let behind = sym c.in_ok-whole.ensures.run.behind ∙ c.in-Some.ensures.cases.0 ∙ ap (λ p. p ∷ part) c.if-point-ne46.false in
    let large = rw c.in_ok-whole.ensures.run.number at c.in_err-value.ensures.run in
    c.from_residual-in_err-value.ensures ∙ part_large bs part behind large

pub returns-then-is_empty-2 : goal.returns-then-is_empty-2
returns-then-is_empty-2 c =
    let bs = c.args.bytes.now in
    let part = c.in-Some.part.now in
    let run = c.in_ok-value.ensures.run in
    let behind = sym c.in_ok-whole.ensures.run.behind ∙ c.in-Some.ensures.cases.0 ∙ ap (λ p. p ∷ part) c.if-point-ne46.false in
    let end : behind_digits part ≡ [] = sym run.behind ∙ empty_list c.in_ok-value.rest.now (eqb-true (length c.in_ok-value.rest.now) 0 (sym c.is_empty-2.ensures ∙ c.if-is_empty-2.true)) in
    let number = run.number ∙ ap (λ n. digits_value_after 10 n (front_digits part)) c.in_ok-whole.ensures.run.number in
    part_number bs part behind c.in_ok-value.value end c.if-bytes-eq1.false number run.few

pub returns-else-is_empty-2 : goal.returns-else-is_empty-2
returns-else-is_empty-2 c =
    let bs = c.args.bytes.now in
    let part = c.in-Some.part.now in
    let behind = sym c.in_ok-whole.ensures.run.behind ∙ c.in-Some.ensures.cases.0 ∙ ap (λ p. p ∷ part) c.if-point-ne46.false in
    part_bad bs part behind c.in_ok-value.rest.now c.in_ok-value.ensures.run.behind (sym c.is_empty-2.ensures ∙ c.if-is_empty-2.false)
