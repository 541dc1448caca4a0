use Rattle.std.proofs.Common.{map, drop}
use Rattle.gb_base.proofs.NameLemmas.{HasAllBut}
use Rattle.gb_base.proofs.NameSetLemmas.{names_in}
use Rattle.gb_base.proofs.name_set.NameSet.of.Given as goal

abbrev pub invariant-loop-name : goal.invariant-loop-name
invariant-loop-name l = HasAllBut (names_in l.names) (names_in (drop l.name-index l.names)) l.set
