use Rattle.std.proofs.Common.{◌≡◌, map, drop}
use Rattle.gb_base.specs.PlSmallStr.{name_of}
use Rattle.gb_series.specs.Frame.{first_missing}
use Rattle.gb_series.specs.Series.{value_of}
use Rattle.gb_series.proofs.frame.find_all.Given as goal

abbrev pub invariant-loop-name : goal.invariant-loop-name
invariant-loop-name l =
    let frame = map value_of l.columns in
    first_missing frame (map name_of l.names) ≡ first_missing frame (map name_of (drop l.name-index l.names))
