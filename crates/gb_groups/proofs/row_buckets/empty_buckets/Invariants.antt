use Rattle.std.proofs.Common.{◌≡◌, ◌≤◌, length, All}
use Rattle.gb_groups.proofs.BucketLemmas.{IsEmptyBucket}
use Rattle.gb_groups.proofs.row_buckets.empty_buckets.Given as goal

abbrev pub invariant-loop-bucket : goal.invariant-loop-bucket
invariant-loop-bucket l = record {
  empty : All IsEmptyBucket l.buckets.items;
  so_far : length l.buckets.items ≡ l.bucket;
  within : l.bucket ≤ l.count;
}
