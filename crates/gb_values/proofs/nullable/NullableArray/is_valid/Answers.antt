use Rattle.std.proofs.Common.{◌<◌, length, ◌∙◌, ap, arith}
use Rattle.gb_values.proofs.FlagLemmas.{flagged_length, flagged_valid_at}
use Rattle.gb_values.proofs.nullable.NullableArray.is_valid.Goals as goal

pub returns : goal.returns
returns g c =
    let slots = g.V.Values.slots c.self.inside.values in
    let flags = c.self.inside.validity.flags.items in
    let lt : c.args.i < length slots = omega (arith, ap length c.self.view_is, flagged_length slots flags, c.requires) in
    rw (← c.self.view_is) (c.is_valid.ensures ∙ flagged_valid_at slots flags c.args.i (g.met.V.Values.none_null c.self.inside.values) lt)
