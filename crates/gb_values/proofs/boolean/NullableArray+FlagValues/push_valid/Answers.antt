use Rattle.std.proofs.Common.{◌∷◌, [], map, ◌∙◌, ap}
use Rattle.std.proofs.lemmas.List.{map-append}
use Rattle.gb_values.specs.Array.{flag_slot, valid_pushed}
use Rattle.gb_values.proofs.FlagLemmas.{valid_more}
use Rattle.gb_values.proofs.boolean.NullableArray+FlagValues.push_valid.Goals as goal

pub returns-clause-ok : goal.returns-clause-ok
returns-clause-ok c =
    let values = c.self.inside.values in
    let kept = c.push_reserved_valid.ensures ∙ ap valid_pushed c.in_ok-reserve_one.ensures.same in
    let grown = ap (map flag_slot) c.in_ok-push.ensures.ok ∙ map-append flag_slot values (c.args.flag ∷ []) in
    valid_more (map flag_slot values) c.self.inside.validity.flags.items _ _ _ c.self.invariant kept c.self.view_is (flag_slot c.args.flag) grown
