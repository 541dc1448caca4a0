use Rattle.std.proofs.Common.{◌≡◌, map, drop}
use Rattle.gb_defs.specs.Column.{find_column}
use Rattle.gb_series.specs.Series.{value_of}
use Rattle.gb_series.proofs.frame.position_of.Given as goal

abbrev pub invariant-loop-place : goal.invariant-loop-place
invariant-loop-place l = find_column (map value_of l.columns) l.name ≡ find_column (map value_of (drop l.place l.columns)) l.name
