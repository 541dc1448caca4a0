use Rattle.std.proofs.Common.{map, option_map, ap, sym, ◌∙◌, arith}
use Rattle.std.specs.String.{string_bytes}
use Rattle.gb_defs.specs.Request as asked
use Rattle.gb_run.specs.Words.{given_of}
use Rattle.gb_run.proofs.WordsLemmas.{alone, at_end, explain_more, option_more}
use Rattle.gb_run.proofs.words.given_from.Goals as goal

pub loop-option-init : goal.loop-option-init
loop-option-init c = ap (asked.given_from (map string_bytes c.args.options.now)) (sym c.nothing-given.ensures)

pub returns-in_default-with_explain-clause-ok : goal.returns-in_default-with_explain-clause-ok
returns-in_default-with_explain-clause-ok c =
    sym (explain_more string_bytes _ _ _ c.loop-option.invariant c.in-Some.option.now c.in-Some.after.now _ c.in-Some.ensures.cases.0 c.as_str-option.ensures.value _ (sym c.if-eq.ensures) (sym c.in_default-with_explain.ensures))

pub loop-option-smaller-then-eq : goal.loop-option-smaller-then-eq
loop-option-smaller-then-eq c = omega (arith, c.in-Some.ensures.cases.1)

pub loop-option-preserved-then-eq : goal.loop-option-preserved-then-eq
loop-option-preserved-then-eq c =
    explain_more string_bytes _ _ _ c.loop-option.invariant c.in-Some.option.now c.in-Some.after.now _ c.in-Some.ensures.cases.0 c.as_str-option.ensures.value _ (sym c.if-eq.ensures) (sym c.in-Some-with_explain.ensures)

pub returns-in_default-split_first-clause-ok : goal.returns-in_default-split_first-clause-ok
returns-in_default-split_first-clause-ok c =
    alone string_bytes _ _ _ c.loop-option.invariant c.in-Some.option.now c.in-Some.after.now _ c.in-Some.ensures.cases.0 c.as_str-option.ensures.value (sym c.if-eq.ensures) c.in_default-split_first.ensures.cases

pub returns-in_default-2-clause-ok : goal.returns-in_default-2-clause-ok
returns-in_default-2-clause-ok c =
    sym (option_more string_bytes _ _ _ c.loop-option.invariant c.in-Some.option.now c.in-Some.after.now _ c.in-Some.ensures.cases.0 c.as_str-option.ensures.value
    c.in-Some-split_first.word.now c.in-Some-split_first.rest.now _ _ (sym c.if-eq.ensures) c.in-Some-split_first.ensures.cases.0 c.as_str.ensures.value
    (sym c.in_ok-more.ensures.ok ∙ ap (option_map given_of) c.in_default-2.is))

pub loop-option-smaller : goal.loop-option-smaller
loop-option-smaller c = omega (arith, c.in-Some.ensures.cases.1, c.in-Some-split_first.ensures.cases.1)

pub loop-option-preserved : goal.loop-option-preserved
loop-option-preserved c =
    option_more string_bytes _ _ _ c.loop-option.invariant c.in-Some.option.now c.in-Some.after.now _ c.in-Some.ensures.cases.0 c.as_str-option.ensures.value
    c.in-Some-split_first.word.now c.in-Some-split_first.rest.now _ _ (sym c.if-eq.ensures) c.in-Some-split_first.ensures.cases.0 c.as_str.ensures.value
    (sym c.in_ok-more.ensures.ok ∙ ap (option_map given_of) c.in-Some-2.is)

pub returns-clause-ok : goal.returns-clause-ok
returns-clause-ok c = at_end string_bytes _ _ _ c.loop-option.invariant c.in_default.ensures.cases
