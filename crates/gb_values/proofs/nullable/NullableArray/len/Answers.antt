use Rattle.std.proofs.Common.{length, List, sym, ◌∙◌, ap, subst}
use Rattle.std.specs.List.{All}
use Rattle.std.proofs.lemmas.List.Elements.{All-from_recursion, recursion_from_All}
use Rattle.gb_defs.specs.ColumnType.{Fits}
use Rattle.gb_defs.specs.Slot.{Slot}
use Rattle.gb_values.specs.Array.{flagged_slots}
use Rattle.gb_values.proofs.FlagLemmas.{flagged_all, flagged_length}
use Rattle.gb_values.proofs.nullable.NullableArray.len.Goals as goal

pub returns-clause-value : goal.returns-clause-value
returns-clause-value g c =
    c.len.ensures.value ∙ sym (flagged_length (g.V.Values.slots c.self.inside.values) c.self.inside.validity.flags.items) ∙ ap length c.self.view_is

pub returns-clause-fitting : goal.returns-clause-fitting
returns-clause-fitting g c =
    let P = Fits g.V.Values.dtype in
    let slots = g.V.Values.slots c.self.inside.values in
    let flags = c.self.inside.validity.flags.items in
    let all = flagged_all P slots flags tt (recursion_from_All P slots c.len.ensures.fitting) in
    subst (λ (ss : List Slot). All P ss) c.self.view_is (All-from_recursion P (flagged_slots slots flags) all)
