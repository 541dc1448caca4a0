use Rattle.std.proofs.Common.{refl}
use Rattle.gb_table.proofs.group_table.GroupTable.new.Goals as goal

pub rebuilt-requires-clause-power : goal.rebuilt-requires-clause-power
rebuilt-requires-clause-power g c = record { bits = 4; is = refl }
