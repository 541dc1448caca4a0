use Rattle.std.proofs.Common.{◌≡◌, length, take}
use Rattle.gb_groups.specs.Buckets.{AreBuckets}
use Rattle.gb_groups.proofs.row_buckets.deal_rows.Given as goal

abbrev pub invariant-loop-place : goal.invariant-loop-place
invariant-loop-place g l = record {
  dealt : AreBuckets (take l.place (g.M.Members.listed l.rows)) (take l.place l.numbers) l.buckets;
  as_many : length l.buckets ≡ length l.fn.buckets;
}
