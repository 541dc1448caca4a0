use Rattle.std.proofs.Common.{◌≡◌, ◌≤◌, length}
use Rattle.gb_agg.specs.Distinct.{numbers_at}
use Rattle.gb_agg.proofs.DistinctLemmas.{AreSeen}
use Rattle.gb_agg.proofs.distinct.count_different.Given as goal

abbrev pub invariant-loop-place : goal.invariant-loop-place
invariant-loop-place g l = record {
  are : AreSeen (numbers_at l.numbers (g.R.GroupRows.rows l.rows)) l.group l.place l.count l.seen;
  as_many : length l.seen ≡ length l.fn.seen;
  few : l.count ≤ l.place;
}
