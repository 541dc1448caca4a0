use Rattle.std.proofs.Common.{◌≡◌, ℕ, get_or, take}
use Rattle.gb_groups.specs.Numbers.{count_of}
use Rattle.gb_paths.specs.Partitions.{AreWithin, partitions_by, share_of}
use Rattle.gb_paths.proofs.row_partitions.count_partitions.Given as goal

abbrev pub invariant-loop-place : goal.invariant-loop-place
invariant-loop-place l = record {
  counted : (k : ℕ) → get_or l.counts k 0 ≡ count_of (partitions_by l.n (take l.place (share_of l.hashes (l.start, l.count)))) k;
  within : AreWithin l.n (take l.place (share_of l.hashes (l.start, l.count)));
}
