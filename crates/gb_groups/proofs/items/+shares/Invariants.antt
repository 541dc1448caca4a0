use Rattle.std.proofs.Common.{◌+◌, ◌*◌, length}
use Rattle.gb_groups.proofs.items.+shares.Given as goal

abbrev pub decreases-move_shares : goal.decreases-move_shares
decreases-move_shares g l = 2 * length l.shares.now

abbrev pub decreases-join_mut+arg3 : goal.decreases-join_mut+arg3
decreases-join_mut+arg3 g l = 2 * length l.later.now + 1
