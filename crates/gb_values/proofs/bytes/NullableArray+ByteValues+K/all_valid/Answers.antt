use Rattle.std.proofs.Common.{map, sym, ◌∙◌, ap}
use Rattle.gb_defs.specs.Slot.{Bytes}
use Rattle.gb_values.specs.Array.{flagged_slots}
use Rattle.gb_values.proofs.FlagLemmas.{flagged_none}
use Rattle.gb_values.proofs.bytes.NullableArray+ByteValues+K.all_valid.Goals as goal

pub returns-then-is_empty : goal.returns-then-is_empty
returns-then-is_empty g c =
    let slots = map (λ bytes. Bytes bytes) c.self.inside.values in
    sym (flagged_none slots) ∙ ap (flagged_slots slots) (sym (c.is_empty.ensures c.if-is_empty.true)) ∙ c.self.view_is
