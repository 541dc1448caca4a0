use Rattle.std.proofs.Common.{◌++◌, ◌∷◌, [], length, ◌∙◌, ap, arith}
use Rattle.gb_defs.specs.Slot.{is_nil, slot_at}
use Rattle.gb_values.specs.Array.{valid_pushed}
use Rattle.gb_values.proofs.FlagLemmas.{flagged_length, shown_at, valid_more}
use Rattle.gb_values.proofs.nullable.NullableArray.push_value.Goals as goal

pub push_from-requires : goal.push_from-requires
push_from-requires g c =
    omega (arith, ap length c.other.view_is, flagged_length (g.V.Values.slots c.other.inside.values) c.other.inside.validity.flags.items, c.requires.inside)

pub returns-clause-ok : goal.returns-clause-ok
returns-clause-ok g c =
    let slots = g.V.Values.slots c.self.inside.values in
    let flags = c.self.inside.validity.flags.items in
    let others = g.V.Values.slots c.other.inside.values in
    let i = c.args.i in
    let kept = c.push_reserved_valid.ensures ∙ ap valid_pushed c.in_ok-reserve_one.ensures.same in
    let seen = ap (λ ss. slot_at ss i) c.other.view_is in
    let shows = shown_at others c.other.inside.validity.flags.items i (ap is_nil seen ∙ c.requires.valid) ∙ seen in
    valid_more slots flags _ _ _ c.self.invariant kept c.self.view_is (slot_at others i) c.in_ok-push_from.ensures.ok ∙ ap (λ s. c.args.self.now ++ s ∷ []) shows
