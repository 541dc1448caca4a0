use Rattle.std.proofs.Common.{option_map, ap, sym, ◌∙◌}
use Rattle.std.specs.String.{string_bytes}
use Rattle.gb_run.specs.Words.{given_of}
use Rattle.gb_run.proofs.WordsLemmas.{false_from_not, group_command, no_command, other_command, true_from_not}
use Rattle.gb_run.proofs.words.request_of.Goals as goal

pub returns-in_default-clause-ok : goal.returns-in_default-clause-ok
returns-in_default-clause-ok c = no_command string_bytes c.args.words.now c.in_default.ensures.cases

pub returns-then-ne-clause-ok : goal.returns-then-ne-clause-ok
returns-then-ne-clause-ok c = other_command string_bytes c.args.words.now c.in-Some.command.now c.in-Some.options.now _ c.in-Some.ensures.cases.0 c.as_str.ensures.value (false_from_not _ c.if-ne.ensures)

pub returns-in-Some-2-clause-ok : goal.returns-in-Some-2-clause-ok
returns-in-Some-2-clause-ok c =
    let asked = group_command string_bytes c.args.words.now c.in-Some.command.now c.in-Some.options.now _ c.in-Some.ensures.cases.0 c.as_str.ensures.value _ (true_from_not _ c.if-ne.ensures)
    (sym c.in_ok-given.ensures.ok ∙ ap (option_map given_of) c.in-Some-2.is) in
    rw asked c.group_of.ensures.ok

pub returns-in-None-clause-ok : goal.returns-in-None-clause-ok
returns-in-None-clause-ok c =
    sym (group_command string_bytes c.args.words.now c.in-Some.command.now c.in-Some.options.now _ c.in-Some.ensures.cases.0 c.as_str.ensures.value _ (true_from_not _ c.if-ne.ensures)
    (sym c.in_ok-given.ensures.ok ∙ ap (option_map given_of) c.in-None.is))
