use Rattle.std.proofs.Common.{map, take}
use Rattle.std.specs.List.{All}
use Rattle.gb_series.specs.Series.{value_of}
use Rattle.gb_series.specs.Structs.{FitsOwn}
use Rattle.gb_series.proofs.+len.Given as goal

abbrev pub invariant-nested::fields::tell_fitting-loop-field : goal.invariant-nested::fields::tell_fitting-loop-field
invariant-nested::fields::tell_fitting-loop-field l =
    All FitsOwn (map value_of (take l.field-index l.field-items))
