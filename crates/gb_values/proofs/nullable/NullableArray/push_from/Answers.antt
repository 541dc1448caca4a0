use Rattle.std.proofs.Common.{◌<◌, length, ◌∙◌, ap, arith, sym}
use Rattle.gb_defs.specs.Slot.{is_nil, slot_at}
use Rattle.gb_values.proofs.FlagLemmas.{flagged_length, null_at, valid_no_nil}
use Rattle.gb_values.proofs.nullable.NullableArray.push_from.Goals as goal

pub push_value-requires-clause-valid : goal.push_value-requires-clause-valid
push_value-requires-clause-valid g c =
    let slots = g.V.Values.slots c.other.inside.values in
    let flags = c.other.inside.validity.flags.items in
    let lt : c.args.i < length slots = omega (arith, ap length c.other.view_is, flagged_length slots flags, c.requires) in
    let valid = sym c.is_valid.ensures ∙ c.if-is_valid.true in
    ap (λ ss. is_nil (slot_at ss c.args.i)) (sym c.other.view_is) ∙ valid_no_nil slots flags c.args.i (g.met.V.Values.none_null c.other.inside.values) lt valid

pub returns-else-is_valid-clause-ok : goal.returns-else-is_valid-clause-ok
returns-else-is_valid-clause-ok g c =
    let slots = g.V.Values.slots c.other.inside.values in
    let flags = c.other.inside.validity.flags.items in
    let null = null_at slots flags c.args.i (sym c.is_valid.ensures ∙ c.if-is_valid.false) ∙ ap (λ ss. slot_at ss c.args.i) c.other.view_is in
    rw null at c.push_null.ensures.ok
