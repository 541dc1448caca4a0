use Rattle.std.proofs.Common.{◌≡◌, ◌+◌, ◌<◌, ◌^◌, All, length}
use Rattle.std.specs.Vec.Iter.{into_iter_items, into_iter_len}
use Rattle.gb_series.specs.Series.{value_of}
use Rattle.gb_agg.specs.Folds.{joined_content, slots_of_parts}
use Rattle.gb_agg.proofs.by_workers.append_all.Given as goal

abbrev pub invariant-loop-other : goal.invariant-loop-other
invariant-loop-other l = record {
  joined : joined_content (value_of l.all) (into_iter_items l.other-iterator) ≡ joined_content (value_of l.fn.all) l.fn.others.items;
  typed : All (λ s. (value_of s).dtype ≡ (value_of l.all).dtype) (into_iter_items l.other-iterator);
  few : length (value_of l.all).slots + length (slots_of_parts (into_iter_items l.other-iterator)) < 2 ^ 63;
  left : into_iter_len l.other-iterator ≡ length (into_iter_items l.other-iterator);
}
