use Rattle.gb_groups.proofs.BucketLemmas.{all_empty}
use Rattle.gb_groups.proofs.row_buckets.empty_buckets.Goals as goal

pub returns-clause-empty : goal.returns-clause-empty
returns-clause-empty c = all_empty c.loop-bucket.buckets.items c.loop-bucket.invariant.empty
