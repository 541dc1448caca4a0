use Rattle.std.proofs.Common.{◌≡◌, None, map, take}
use Rattle.gb_agg.specs.Method.{method_of}
use Rattle.gb_rows.specs.Lent.{keys_in}
use Rattle.gb_series.specs.Series.{value_of}
use Rattle.gb_frame.specs.Agg.{aggs_of}
use Rattle.gb_frame.specs.Refusals.{chosen, each_by}
use Rattle.gb_frame.proofs.selection.other_aggs.Given as goal

abbrev pub invariant-loop-column : goal.invariant-loop-column
invariant-loop-column l = aggs_of l.aggs.items ≡ each_by (method_of l.method) (chosen (map value_of (take l.column-index l.column-items)) (keys_in l.keys) None)
