use Rattle.std.proofs.Common.{◌≡◌, true, false, ap, sym, ◌∙◌, Some, inl, inr, arith}
use Rattle.std.proofs.lemmas.Bool.{eqb-true}
use Rattle.gb_run.proofs.WordsLemmas.{numeral_digits, numeral_from, numeral_some, parse_reads, parse_refuses, within_none, within_some}
use Rattle.gb_run.proofs.words.number_within.Goals as goal
use Rattle.gb_run.proofs.words.number_within.Goals.{then-is_empty-via-then-is_empty, then-is_empty-via-else-is_empty+then-word-gt20, then-is_empty-via-else-is_empty+else-word-gt20+then-not-is_digits}

pub returns-then-is_empty : goal.returns-then-is_empty
returns-then-is_empty c = within_none c.args.least c.args.most c.args.word.now (λ numeral few low high. elim c.then-is_empty.branch [
  | then-is_empty-via-then-is_empty w ↦ omega (arith, numeral_some c.args.word.now numeral, eqb-true _ _ (sym w.if-is_empty.ensures))
  | then-is_empty-via-else-is_empty+then-word-gt20 w ↦ omega (arith, few, w.if-word-gt20.true)
  | then-is_empty-via-else-is_empty+else-word-gt20+then-not-is_digits w ↦ let digits = numeral_digits c.args.word.now numeral in let no : false ≡ true = rw digits at w.if-not-is_digits.ensures in cc
])

pub returns-in_err-value : goal.returns-in_err-value
returns-in_err-value c = c.from_residual.ensures ∙ within_none c.args.least c.args.most c.args.word.now (λ numeral few low high.
    parse_refuses c.args.word.now c.parse.result c.parse.ensures.value.0 numeral (sym c.ok.ensures.value ∙ c.in_err-value.was) (omega (arith, high, c.ranges.most.fits)))

pub returns-then-value-least : goal.returns-then-value-least
returns-then-value-least c = within_none c.args.least c.args.most c.args.word.now (λ numeral few low high.
    let same = parse_reads c.args.word.now c.parse.result c.in_ok-value.value c.parse.ensures.value.0 numeral (sym c.ok.ensures.value ∙ c.in_ok-value.was) in
    elim c.then-value-least.either [ inl below ↦ omega (arith, same, low, below) | inr above ↦ omega (arith, same, high, above.1) ])

pub returns : goal.returns
returns c =
    let numeral = numeral_from c.args.word.now c.if-is_empty.ensures (sym c.if-not-is_digits.ensures) in
    let same = parse_reads c.args.word.now c.parse.result c.in_ok-value.value c.parse.ensures.value.0 numeral (sym c.ok.ensures.value ∙ c.in_ok-value.was) in
    ap (λ n. Some n) same ∙ within_some c.args.least c.args.most c.args.word.now numeral (omega (arith, c.if-word-gt20.false)) (omega (arith, same, c.if-value-least.false)) (omega (arith, same, c.if-most-value.false))
