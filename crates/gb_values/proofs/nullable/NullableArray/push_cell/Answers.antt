use Rattle.std.proofs.Common.{◌∙◌, ap}
use Rattle.gb_defs.specs.Cell.{value_of_field}
use Rattle.gb_values.specs.Array.{valid_pushed}
use Rattle.gb_values.proofs.FlagLemmas.{taken_more}
use Rattle.gb_values.proofs.nullable.NullableArray.push_cell.Goals as goal

pub returns-clause-ok : goal.returns-clause-ok
returns-clause-ok g c =
    let slots = g.V.Values.slots c.self.inside.values in
    let flags = c.self.inside.validity.flags.items in
    let kept = c.push_reserved_valid.ensures ∙ ap valid_pushed c.in_ok-reserve_one.ensures.same in
    let taken = rw c.if-not-branch.false at c.in_ok-push_cell.ensures.ok in
    taken_more slots flags _ _ _ c.self.invariant kept c.self.view_is (value_of_field g.V.Values.dtype c.args.cell.now) taken
