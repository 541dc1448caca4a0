use Rattle.std.proofs.Common.{◌≡◌, map, drop}
use Rattle.gb_defs.specs.Column.{all_have_length}
use Rattle.gb_series.specs.Series.{value_of}
use Rattle.gb_series.proofs.frame.all_have_length.Given as goal

abbrev pub invariant-loop-column : goal.invariant-loop-column
invariant-loop-column l = all_have_length l.height (map value_of l.columns) ≡ all_have_length l.height (map value_of (drop l.column-index l.columns))
