use Rattle.std.proofs.Common.{map, take}
use Rattle.gb_series.specs.Series.{value_of}
use Rattle.gb_rows.specs.Told.{FitTypes}
use Rattle.gb_rows.proofs.unordered.tell_keys.Given as goal

-- the keys so far fit
abbrev pub invariant-loop-key : goal.invariant-loop-key
invariant-loop-key l = FitTypes (map value_of (take l.key-index l.keys))
