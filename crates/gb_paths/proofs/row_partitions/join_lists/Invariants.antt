use Rattle.std.proofs.Common.{◌≡◌, take}
use Rattle.gb_paths.specs.Partitions.{list_joined}
use Rattle.gb_paths.proofs.row_partitions.join_lists.Given as goal

abbrev pub invariant-loop-share : goal.invariant-loop-share
invariant-loop-share l = l.rows.items ≡ list_joined (take l.share-index l.shares) l.partition
