use Rattle.std.proofs.Common.{length, map, take}
use Rattle.gb_defs.specs.Groups.{rows_of_pair}
use Rattle.gb_groups.specs.GroupsType.{groups_of}
use Rattle.gb_agg.specs.Distinct.{AreNumbered}
use Rattle.gb_agg.proofs.classes.number_groups.Given as goal

abbrev pub invariant-loop-place : goal.invariant-loop-place
invariant-loop-place l = AreNumbered (length l.fn.numbers) (map rows_of_pair (take l.place (groups_of l.groups).pairs)) l.numbers
