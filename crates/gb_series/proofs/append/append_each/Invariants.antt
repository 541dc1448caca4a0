use Rattle.std.proofs.Common.{◌≡◌, map, length, take}
use Rattle.gb_series.specs.Append.{appended_from}
use Rattle.gb_series.specs.Series.{value_of}
use Rattle.gb_series.proofs.append.append_each.Given as goal

abbrev pub invariant-loop-other : goal.invariant-loop-other
invariant-loop-other l = record {
  columns : map value_of l.columns.items ≡ appended_from (length l.others.items) (map value_of l.fn.columns.items) (map value_of l.fn.others.items);
  left : l.others.items ≡ take (length l.others.items) l.fn.others.items;
}

abbrev pub decreases-loop-other : goal.decreases-loop-other
decreases-loop-other l = length l.others.items
