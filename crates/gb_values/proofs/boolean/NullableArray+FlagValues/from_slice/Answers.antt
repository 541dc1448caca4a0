use Rattle.std.proofs.Common.{map, ◌∙◌, ap}
use Rattle.gb_values.specs.Array.{flag_slot, flagged_slots}
use Rattle.gb_values.proofs.FlagLemmas.{flagged_none}
use Rattle.gb_values.proofs.boolean.NullableArray+FlagValues.from_slice.Goals as goal

pub returns : goal.returns
returns c =
    ap (λ flags. flagged_slots (map flag_slot flags) c.new.result.flags.items) c.in_ok-from_slice.ensures
    ∙ ap (flagged_slots (map flag_slot c.args.flags.now)) c.new.ensures ∙ flagged_none (map flag_slot c.args.flags.now)
