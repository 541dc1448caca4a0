use Rattle.std.proofs.Common.{◌≡◌, length, take}
use Rattle.gb_paths.specs.Partitions.{list_joined}
use Rattle.gb_paths.proofs.row_partitions.joined_len.Given as goal

abbrev pub invariant-loop-share : goal.invariant-loop-share
invariant-loop-share l = l.count ≡ length (list_joined (take l.share-index l.shares) l.partition)
