use Rattle.std.proofs.Common.{refl}
use Rattle.gb_table.proofs.text_table.make_slots.Goals as goal

pub rebuilt-requires-clause-power : goal.rebuilt-requires-clause-power
rebuilt-requires-clause-power c = record { bits = 4; is = refl }
