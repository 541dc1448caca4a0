use Rattle.std.proofs.Common.{◌≡◌, map, take}
use Rattle.gb_series.specs.Series.{value_of}
use Rattle.gb_series.specs.Structs.{field_part}
use Rattle.gb_base.specs.DataType.{part_of}
use Rattle.gb_series.proofs.+dtype.Given as goal

abbrev pub invariant-nested::fields::field_types-loop-field : goal.invariant-nested::fields::field_types-loop-field
invariant-nested::fields::field_types-loop-field l =
    map part_of l.types.items ≡ map field_part (map value_of (take l.field-index l.field-items))
