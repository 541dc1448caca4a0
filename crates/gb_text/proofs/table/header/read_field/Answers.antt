use Rattle.std.proofs.Common.{◌∙◌, Some, ap, sym}
use Rattle.std.proofs.lemmas.Str.{IsUtf8-from_is_utf8, is_utf8-from_IsUtf8}
use Rattle.std.proofs.lemmas.Bool.{false_from_ne_true}
use Rattle.std.specs.Str.{is_utf8}
use Rattle.gb_text.proofs.CellLemmas.{no_text, its_text}
use Rattle.gb_text.proofs.table.header.read_field.Goals as goal

pub returns-in_err-text-clause-value : goal.returns-in_err-text-clause-value
returns-in_err-text-clause-value c =
    let none = no_text c.args.field.now _ c.from_utf8.result c.from_utf8.ensures.cases (sym c.ok.ensures.value ∙ c.in_err-text.was) in
    let wrong = false_from_ne_true (is_utf8 c.args.field.now) (λ e. none (IsUtf8-from_is_utf8 c.args.field.now e)) in
    rw (c.from_residual.ensures, wrong)

pub returns-clause-value : goal.returns-clause-value
returns-clause-value c =
    let text = its_text c.args.field.now _ c.from_utf8.result c.in_ok-text.text c.from_utf8.ensures.cases (sym c.ok.ensures.value ∙ c.in_ok-text.was) in
    let right = is_utf8-from_IsUtf8 c.args.field.now text.1 in
    rw right (ap (λ h. Some h) (rw text.0 at c.read_head.ensures.value))
