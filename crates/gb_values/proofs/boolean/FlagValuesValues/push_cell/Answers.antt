use Rattle.std.proofs.Common.{◌++◌, ◌∷◌, [], map, Some, ◌∙◌, ap, option_map}
use Rattle.std.proofs.lemmas.List.{map-append}
use Rattle.gb_values.specs.Array.{flag_slot}
use Rattle.gb_values.proofs.boolean.FlagValuesValues.push_cell.Goals as goal

pub returns-in_ok-push-in-Some-clause-ok : goal.returns-in_ok-push-in-Some-clause-ok
returns-in_ok-push-in-Some-clause-ok c =
    let before = map flag_slot c.args.self.now in
    let pushed = ap (map flag_slot) c.in_ok-push-in-Some.ensures.ok ∙ map-append flag_slot c.args.self.now (c.in-Some.flag ∷ []) in
    ap (λ slots. Some slots) pushed ∙ ap (option_map (λ slot. before ++ slot ∷ [])) c.in-Some.ensures

pub returns-in-None-clause-ok : goal.returns-in-None-clause-ok
returns-in-None-clause-ok c =
    let before = map flag_slot c.args.self.now in ap (option_map (λ slot. before ++ slot ∷ [])) c.in-None.ensures
