use Rattle.std.proofs.Common.{◌≡◌, map, drop}
use Rattle.gb_series.specs.Append.{type_fault}
use Rattle.gb_series.specs.Series.{value_of}
use Rattle.gb_series.proofs.append.first_unlike.Given as goal

abbrev pub invariant-loop-place : goal.invariant-loop-place
invariant-loop-place l = type_fault (map value_of l.columns) (map value_of l.others) ≡ type_fault (map value_of (drop l.place l.columns)) (map value_of (drop l.place l.others))
