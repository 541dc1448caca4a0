use Rattle.std.proofs.Common.{◌≡◌, ◌++◌, length}
use Rattle.std.specs.Vec.Iter.{into_iter_items, into_iter_len}
use Rattle.gb_frame.specs.Key.{AreOrOne, columns_of, high_keys}
use Rattle.gb_frame.proofs.key.stretch_keys.Given as goal

abbrev pub invariant-loop-key : goal.invariant-loop-key
invariant-loop-key l = record {
  so_far : columns_of l.all.items ++ high_keys l.height (columns_of (into_iter_items l.key-iterator)) ≡ high_keys l.height (columns_of l.fn.keys.items);
  long : AreOrOne l.height (columns_of (into_iter_items l.key-iterator));
  left : into_iter_len l.key-iterator ≡ length (into_iter_items l.key-iterator);
}
