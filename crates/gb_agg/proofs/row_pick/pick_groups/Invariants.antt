use Rattle.std.proofs.Common.{map, take}
use Rattle.gb_defs.specs.Groups.{rows_of_pair}
use Rattle.gb_agg.specs.Picks.{ArePicks}
use Rattle.gb_agg.proofs.row_pick.pick_groups.Given as goal

abbrev pub invariant-loop-place : goal.invariant-loop-place
invariant-loop-place g l =
    ArePicks (g.P.RowPick.column l.pick) (g.P.RowPick.fold l.pick) (map rows_of_pair (take l.place l.groups.pairs)) l.rows.items
