use Rattle.std.proofs.Common.{◌+◌, ◌-◌, ◌++◌, take, drop, map, ◌∙◌, ap}
use Rattle.gb_values.specs.Array.{flag_slot}
use Rattle.gb_values.proofs.ValueLemmas.{values_part}
use Rattle.gb_values.proofs.boolean.FlagValuesValues.extend_from.Goals as goal

pub returns-clause-ok : goal.returns-clause-ok
returns-clause-ok c =
    let start = c.args.start in
    let count = c.args.count in
    let flags = c.self.inside.flags.items in
    let others = c.other.inside.flags.items in
    let more = c.in_ok-extend_from_slice.ensures.items ∙ ap (λ vs. flags ++ take ((start + count) - start) (drop start vs)) c.as_slice.ensures.value in
    values_part flag_slot flags others c.extend_from_slice.new.self.items start count more
    ∙ ap (λ vs. map flag_slot vs ++ take count (drop start (map flag_slot others))) c.self.view_is
    ∙ ap (λ vs. map flag_slot c.args.self.now ++ take count (drop start (map flag_slot vs))) c.other.view_is
