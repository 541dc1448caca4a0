use Rattle.std.proofs.Common.{◌≡◌, take}
use Rattle.gb_paths.specs.Leaders.{put_at}
use Rattle.gb_paths.proofs.leaders.put_leaders.Given as goal

abbrev pub invariant-loop-place : goal.invariant-loop-place
invariant-loop-place l = l.all ≡ put_at l.fn.all (take l.place l.rows) (take l.place l.leaders)
