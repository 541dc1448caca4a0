use Rattle.std.proofs.Common.{arith, ◌+◌}
use Rattle.std.proofs.lemmas.Grind.{pow_more}
use Rattle.gb_table.proofs.slots.make_room.Goals as goal

pub rebuilt-requires-clause-power : goal.rebuilt-requires-clause-power
rebuilt-requires-clause-power g c =
    let table = c.requires.roomy.table in
    record { bits = table.bits + 1; is = omega (arith, pow_more 2 table.bits, table.size, c.len-2.ensures, c.args.slots.now.ok.0) }
