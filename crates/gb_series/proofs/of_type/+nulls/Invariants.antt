use Rattle.std.proofs.Common.{◌≡◌, ◌+◌, ◌*◌, map, take}
use Rattle.gb_base.specs.DataType.{fields_of, part_of, type_of}
use Rattle.gb_series.specs.Depth.{depth, fields_depth}
use Rattle.gb_series.specs.Nulls.{empty_part}
use Rattle.gb_series.specs.Series.{value_of}
use Rattle.gb_series.proofs.of_type.+nulls.Given as goal

abbrev pub decreases-nulls_of : goal.decreases-nulls_of
decreases-nulls_of l = 2 * depth (type_of l.dtype.now)

abbrev pub decreases-empty_parts : goal.decreases-empty_parts
decreases-empty_parts l = 2 * fields_depth (fields_of (map part_of l.fields.now.items)) + 1

abbrev pub invariant-empty_parts-loop-field : goal.invariant-empty_parts-loop-field
invariant-empty_parts-loop-field l =
    map value_of l.made.items ≡ map empty_part (take l.field-index l.field-items)
