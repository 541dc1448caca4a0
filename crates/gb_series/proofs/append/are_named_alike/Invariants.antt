use Rattle.std.proofs.Common.{◌≡◌, map, drop, length}
use Rattle.gb_series.specs.Append.{are_named_alike}
use Rattle.gb_series.specs.Series.{value_of}
use Rattle.gb_series.proofs.append.are_named_alike.Given as goal

abbrev pub invariant-loop-place : goal.invariant-loop-place
invariant-loop-place l = record {
  long : length l.columns ≡ length l.others;
  rest : are_named_alike (map value_of l.columns) (map value_of l.others) ≡ are_named_alike (map value_of (drop l.place l.columns)) (map value_of (drop l.place l.others));
}
