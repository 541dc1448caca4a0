use Rattle.std.proofs.Common.{◌≡◌, map, take}
use Rattle.gb_series.specs.Series.{part_at, value_of}
use Rattle.gb_series.proofs.frame.DataFrame.part.Given as goal

abbrev pub invariant-loop-column : goal.invariant-loop-column
invariant-loop-column l = map value_of l.columns.items ≡ map (part_at l.start l.len) (map value_of (take l.column-index l.column-items))
