use Rattle.std.proofs.Common.{ℕ, ◌<◌, [], get_or, length}
use Rattle.gb_groups.proofs.view.GroupsView.all_have_rows.Given as goal

abbrev pub invariant-loop-place : goal.invariant-loop-place
invariant-loop-place l = (k : ℕ) → k < l.place → 0 < length (get_or l.self.pairs k (0, [])).1
