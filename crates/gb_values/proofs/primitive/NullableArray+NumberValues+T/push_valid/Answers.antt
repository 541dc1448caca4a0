use Rattle.std.proofs.Common.{◌∷◌, [], map, ◌∙◌, ap}
use Rattle.std.proofs.lemmas.List.{map-append}
use Rattle.gb_defs.specs.Slot.{Num}
use Rattle.gb_values.specs.Array.{valid_pushed}
use Rattle.gb_values.proofs.FlagLemmas.{valid_more}
use Rattle.gb_values.proofs.primitive.NullableArray+NumberValues+T.push_valid.Goals as goal

pub returns-clause-ok : goal.returns-clause-ok
returns-clause-ok g c =
    let values = c.self.inside.values in
    let value = g.T.Native.Native.number c.args.value in
    let kept = c.push_reserved_valid.ensures ∙ ap valid_pushed c.in_ok-reserve_one.ensures.same in
    let grown = ap (map (λ v. Num v)) c.in_ok-push.ensures.ok ∙ map-append (λ v. Num v) values (value ∷ []) in
    valid_more (map (λ v. Num v) values) c.self.inside.validity.flags.items _ _ _ c.self.invariant kept c.self.view_is (Num value) grown
