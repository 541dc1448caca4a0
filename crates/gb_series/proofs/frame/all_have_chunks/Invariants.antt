use Rattle.std.proofs.Common.{◌≡◌, map, drop}
use Rattle.gb_series.specs.Frame.{are_all_chunked}
use Rattle.gb_series.specs.Series.{value_of}
use Rattle.gb_series.proofs.frame.all_have_chunks.Given as goal

abbrev pub invariant-loop-column : goal.invariant-loop-column
invariant-loop-column l = are_all_chunked l.lengths (map value_of l.columns) ≡ are_all_chunked l.lengths (map value_of (drop l.column-index l.columns))
