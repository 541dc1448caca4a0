use Rattle.std.proofs.Common.{◌≡◌, take}
use Rattle.gb_paths.specs.Numbering.{firsts_in}
use Rattle.gb_paths.proofs.number_rows.join_firsts.Given as goal

abbrev pub invariant-loop-part : goal.invariant-loop-part
invariant-loop-part l = l.firsts.items ≡ firsts_in (take l.part-index l.parts)
