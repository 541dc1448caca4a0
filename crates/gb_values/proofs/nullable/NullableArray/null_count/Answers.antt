use Rattle.std.proofs.Common.{length, ◌∙◌}
use Rattle.gb_values.proofs.FlagLemmas.{flagged_nulls, flags_few}
use Rattle.gb_values.proofs.nullable.NullableArray.null_count.Goals as goal

pub returns : goal.returns
returns g c =
    let slots = g.V.Values.slots c.self.inside.values in
    let flags = c.self.inside.validity.flags.items in
    let few = flags_few (length flags) (length slots) c.self.invariant in
    rw (← c.self.view_is) (c.null_count.ensures ∙ flagged_nulls slots flags (g.met.V.Values.none_null c.self.inside.values) few)
