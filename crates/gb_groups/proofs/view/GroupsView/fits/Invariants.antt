use Rattle.std.proofs.Common.{ℕ, ◌<◌, [], get_or}
use Rattle.gb_defs.specs.Groups.{FitsRows}
use Rattle.gb_groups.proofs.view.GroupsView.fits.Given as goal

abbrev pub invariant-loop-place : goal.invariant-loop-place
invariant-loop-place l = (k : ℕ) → k < l.place → FitsRows l.n (get_or l.self.pairs k (0, []))
