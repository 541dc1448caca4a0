use Rattle.std.proofs.Common.{◌≡◌, map, take}
use Rattle.gb_series.specs.Series.{value_of}
use Rattle.gb_defs.specs.Column.{sliced}
use Rattle.gb_series.proofs.frame.DataFrame.slice.Given as goal

abbrev pub invariant-loop-column : goal.invariant-loop-column
invariant-loop-column l = map value_of l.columns.items ≡ map (sliced l.offset l.len) (map value_of (take l.column-index l.column-items))
