use Rattle.std.proofs.Common.{◌≡◌, ◌≤◌, ◌+◌, vec_capacity}
use Rattle.gb_paths.proofs.KeyLemmas.{AreNumbered}
use Rattle.gb_paths.proofs.row_groups.number_groups.Given as goal

abbrev pub invariant-loop-place : goal.invariant-loop-place
invariant-loop-place g l = record {
  numbered : AreNumbered g.R.Key.PartialEq.eq g.R.KeyRows.key_slot (g.R.KeyRows.rows l.rows).slot (g.R.KeyRows.rows l.rows).hash (g.M.Members.listed l.members) l.place l.table l.first.items l.of_rows.items;
  room : l.count ≤ vec_capacity l.of_rows;
  counted : l.steps ≡ l.fn.steps + l.place;
}
