use Rattle.std.proofs.Common.{◌≡◌, ◌++◌, length, map}
use Rattle.std.specs.Vec.Iter.{into_iter_items, into_iter_len}
use Rattle.gb_series.specs.Series.{value_of}
use Rattle.gb_frame.specs.Key.{columns_of}
use Rattle.gb_frame.proofs.key.owned_keys.Given as goal

abbrev pub invariant-loop-column : goal.invariant-loop-column
invariant-loop-column l = record {
  so_far : columns_of l.keys.items ++ map value_of (into_iter_items l.column-iterator) ≡ map value_of l.fn.columns.items;
  left : into_iter_len l.column-iterator ≡ length (into_iter_items l.column-iterator);
}
