use Rattle.std.proofs.Common.{map, take}
use Rattle.gb_series.specs.Append.{AreMarksOf}
use Rattle.gb_series.specs.Series.{value_of}
use Rattle.gb_series.proofs.append.marks_of.Given as goal

abbrev pub invariant-loop-column : goal.invariant-loop-column
invariant-loop-column l = AreMarksOf (map value_of (take l.column-index l.columns)) l.marks.items
