use Rattle.std.specs.List.{range_with_len}
use Rattle.gb_paths.specs.Partitions.{partitions_by, share_of}
use Rattle.gb_groups.proofs.NumberLemmas.{AreFilledTo}
use Rattle.gb_paths.proofs.row_partitions.fill_partitions.Given as goal

abbrev pub invariant-loop-place : goal.invariant-loop-place
invariant-loop-place l = AreFilledTo (range_with_len l.start l.count) (partitions_by l.n (share_of l.hashes (l.start, l.count))) l.place l.lists
