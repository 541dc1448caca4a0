use Rattle.std.proofs.Common.{◌≡◌, length}
use Rattle.gb_groups.proofs.BucketLemmas.{HaveUpTo}
use Rattle.gb_groups.proofs.row_lists.fill_lists.Given as goal

abbrev pub invariant-loop-bucket : goal.invariant-loop-bucket
invariant-loop-bucket g l = record {
  up_to : HaveUpTo (g.M.Members.listed l.rows) l.numbers l.bucket-index l.lists;
  as_many : length l.lists ≡ length l.fn.lists;
}
