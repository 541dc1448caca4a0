use Rattle.std.proofs.Common.{◌+◌, ◌*◌, length}
use Rattle.gb_flat.proofs.fill.+shares.Given as goal

abbrev pub decreases-fill_shares : goal.decreases-fill_shares
decreases-fill_shares g l = 3 * length l.shares.now

abbrev pub decreases-fill_both : goal.decreases-fill_both
decreases-fill_both g l = 3 * length l.later.now + 2

abbrev pub decreases-fill_both-join_mut+arg3 : goal.decreases-fill_both-join_mut+arg3
decreases-fill_both-join_mut+arg3 g l = 3 * length l.later.now + 1
