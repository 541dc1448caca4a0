use Rattle.std.proofs.Common.{◌++◌, ◌∷◌, [], ◌∙◌, ap}
use Rattle.std.proofs.lemmas.Result.{err_from_is_err_and}
use Rattle.gb_defs.specs.Slot.{Nil}
use Rattle.gb_values.specs.Array.{flagged_slots}
use Rattle.gb_values.proofs.FlagLemmas.{flagged_filled, flagged_null}
use Rattle.gb_values.proofs.nullable.NullableArray.push_null.Goals as goal

pub returns-clause-ok : goal.returns-clause-ok
returns-clause-ok g c =
    let slots = g.V.Values.slots c.self.inside.values in
    let flags = c.self.inside.validity.flags.items in
    let grown = c.in_ok-push_filler.ensures.ok in
    rw (grown.more, c.push_reserved_null.ensures, c.in_ok-fill.ensures.ok)
    (flagged_null slots flags grown.slot c.len.result c.len.ensures.value c.self.invariant ∙ ap (λ ss. ss ++ Nil ∷ []) c.self.view_is)

pub returns-in_err-push_filler-clause-err : goal.returns-in_err-push_filler-clause-err
returns-in_err-push_filler-clause-err g c =
    let slots = g.V.Values.slots c.self.inside.values in
    let flags = c.self.inside.validity.flags.items in
    let err = err_from_is_err_and c.from_residual-in_err-push_filler.result c.from_residual-in_err-push_filler.ensures.1 in
    rw err.1
    (ap (λ ss. flagged_slots ss c.fill.new.self.flags.items) c.in_err-push_filler.ensures.err ∙ ap (flagged_slots slots) c.in_ok-fill.ensures.ok
    ∙ flagged_filled slots flags c.len.result ∙ c.self.view_is)
