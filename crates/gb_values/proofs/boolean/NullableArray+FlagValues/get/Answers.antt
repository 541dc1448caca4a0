use Rattle.std.proofs.Common.{◌<◌, false, map, length, ◌∙◌, ap, arith, sym}
use Rattle.std.proofs.lemmas.List.{length-map}
use Rattle.gb_defs.specs.Slot.{slot_at}
use Rattle.gb_values.specs.Array.{flag_slot}
use Rattle.gb_values.proofs.FlagLemmas.{flagged_length, null_at, valid_at}
use Rattle.gb_values.proofs.ValueLemmas.{value_at}
use Rattle.gb_values.proofs.boolean.NullableArray+FlagValues.get.Goals as goal

pub get-requires : goal.get-requires
get-requires c =
    let values = c.self.inside.values in
    let slots = map flag_slot values in
    omega (arith, ap length c.self.view_is, flagged_length slots c.self.inside.validity.flags.items, length-map values flag_slot, c.requires)

pub returns-then-is_valid : goal.returns-then-is_valid
returns-then-is_valid c =
    let values = c.self.inside.values in
    let slots = map flag_slot values in
    let flags = c.self.inside.validity.flags.items in
    let lt : c.args.i < length values = omega (arith, ap length c.self.view_is, flagged_length slots flags, length-map values flag_slot, c.requires) in
    ap flag_slot c.get.ensures ∙ value_at flag_slot values false c.args.i lt ∙ valid_at slots flags c.args.i (sym c.is_valid.ensures ∙ c.if-is_valid.true) ∙ ap (λ ss. slot_at ss c.args.i) c.self.view_is

pub returns-else-is_valid : goal.returns-else-is_valid
returns-else-is_valid c =
    let slots = map flag_slot c.self.inside.values in
    let flags = c.self.inside.validity.flags.items in
    null_at slots flags c.args.i (sym c.is_valid.ensures ∙ c.if-is_valid.false) ∙ ap (λ ss. slot_at ss c.args.i) c.self.view_is
