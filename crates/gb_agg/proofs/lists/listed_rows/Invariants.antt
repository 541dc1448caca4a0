use Rattle.std.proofs.Common.{map, take}
use Rattle.gb_defs.specs.Groups.{rows_of_pair}
use Rattle.gb_agg.specs.Lists.{AreListed}
use Rattle.gb_agg.proofs.lists.listed_rows.Given as goal

abbrev pub invariant-loop-place : goal.invariant-loop-place
invariant-loop-place l = AreListed (map rows_of_pair (take l.place l.groups.pairs)) l.rows.items l.ends.items
