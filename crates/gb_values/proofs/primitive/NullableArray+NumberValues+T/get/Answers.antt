use Rattle.std.proofs.Common.{◌<◌, map, length, ◌∙◌, ap, arith, sym}
use Rattle.std.proofs.lemmas.List.{length-map}
use Rattle.gb_defs.specs.Slot.{Num, slot_at}
use Rattle.gb_values.proofs.FlagLemmas.{flagged_length, null_at, valid_at}
use Rattle.gb_values.proofs.NumberLemmas.{number_at}
use Rattle.gb_values.proofs.primitive.NullableArray+NumberValues+T.get.Goals as goal

pub get-requires : goal.get-requires
get-requires g c =
    let values = c.self.inside.values in
    let slots = map (λ v. Num v) values in
    omega (arith, ap length c.self.view_is, flagged_length slots c.self.inside.validity.flags.items, length-map values (λ v. Num v), c.requires)

pub returns-then-is_valid : goal.returns-then-is_valid
returns-then-is_valid g c =
    let values = c.self.inside.values in
    let slots = map (λ v. Num v) values in
    let flags = c.self.inside.validity.flags.items in
    let lt : c.args.i < length values = omega (arith, ap length c.self.view_is, flagged_length slots flags, length-map values (λ v. Num v), c.requires) in
    ap (λ v. Num v) c.get.ensures ∙ number_at values c.args.i lt ∙ valid_at slots flags c.args.i (sym c.is_valid.ensures ∙ c.if-is_valid.true) ∙ ap (λ ss. slot_at ss c.args.i) c.self.view_is

pub returns-else-is_valid : goal.returns-else-is_valid
returns-else-is_valid g c =
    let slots = map (λ v. Num v) c.self.inside.values in
    let flags = c.self.inside.validity.flags.items in
    null_at slots flags c.args.i (sym c.is_valid.ensures ∙ c.if-is_valid.false) ∙ ap (λ ss. slot_at ss c.args.i) c.self.view_is
