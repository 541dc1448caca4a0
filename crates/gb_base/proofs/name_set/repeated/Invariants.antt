use Rattle.std.proofs.Common.{map, drop}
use Rattle.gb_base.specs.PlSmallStr.{name_of}
use Rattle.gb_base.proofs.NameLemmas.{HasSeen}
use Rattle.gb_base.proofs.name_set.repeated.Given as goal

abbrev pub invariant-loop-name : goal.invariant-loop-name
invariant-loop-name l = HasSeen (map name_of l.names) (map name_of (drop l.name-index l.names)) l.seen
