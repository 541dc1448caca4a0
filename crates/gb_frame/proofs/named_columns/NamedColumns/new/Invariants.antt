use Rattle.std.proofs.Common.{◌≤◌, drop, length, map}
use Rattle.gb_frame.specs.NamedColumns.{AreStored}
use Rattle.gb_series.specs.Series.{value_of}
use Rattle.gb_frame.proofs.named_columns.NamedColumns.new.Given as goal

abbrev pub invariant-loop-left : goal.invariant-loop-left
invariant-loop-left l = record {
  inside : l.left ≤ length l.columns;
  stored : AreStored (map value_of (drop l.left l.columns)) l.stored;
}

abbrev pub decreases-loop-left : goal.decreases-loop-left
decreases-loop-left l = l.left
