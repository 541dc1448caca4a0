use Rattle.std.proofs.Common.{◌≡◌, map, take}
use Rattle.gb_base.specs.PlSmallStr.{name_of}
use Rattle.gb_base.proofs.rev_mapping.RevMapping.build_local.Given as goal

abbrev pub invariant-loop-name : goal.invariant-loop-name
invariant-loop-name l = l.map ≡ map name_of (take l.name-index l.name-items)
