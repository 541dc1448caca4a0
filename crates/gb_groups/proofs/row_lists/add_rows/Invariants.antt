use Rattle.std.proofs.Common.{take}
use Rattle.gb_groups.specs.Numbers.{HaveMore}
use Rattle.gb_groups.proofs.row_lists.add_rows.Given as goal

abbrev pub invariant-loop-place : goal.invariant-loop-place
invariant-loop-place g l = HaveMore (take l.place (g.M.Members.listed l.rows)) (take l.place l.numbers) l.fn.lists l.lists
