use Rattle.std.proofs.Common.{◌≡◌, ◌≤◌, ◌+◌, ◌*◌, map, take}
use Rattle.gb_base.specs.AnyValue.{slot_of}
use Rattle.gb_base.specs.DataType.{fields_of}
use Rattle.gb_defs.specs.Slices.{between}
use Rattle.gb_series.specs.Depth.{depth, fields_depth}
use Rattle.gb_series.specs.Series.{value_of}
use Rattle.gb_series.specs.Structs.{across, field_part}
use Rattle.gb_series.proofs.+get.Given as goal

abbrev pub decreases-series::Series::get : goal.decreases-series::Series::get
decreases-series::Series::get l =
    4 * depth (value_of l.self.now).dtype + 3

abbrev pub decreases-value::list_value : goal.decreases-value::list_value
decreases-value::list_value l =
    4 * depth l.column.now.dtype + 2

abbrev pub decreases-value::array_value : goal.decreases-value::array_value
decreases-value::array_value l =
    4 * depth l.column.now.dtype + 2

abbrev pub decreases-value::struct_value : goal.decreases-value::struct_value
decreases-value::struct_value l =
    4 * depth l.column.now.dtype + 2

abbrev pub decreases-value::values_of_row : goal.decreases-value::values_of_row
decreases-value::values_of_row l =
    4 * depth (value_of l.items.now).dtype + 4

abbrev pub decreases-value::values_across : goal.decreases-value::values_across
decreases-value::values_across l =
    4 * fields_depth (fields_of (map field_part (map value_of l.fields.now))) + 4

abbrev pub invariant-value::values_of_row-loop-place : goal.invariant-value::values_of_row-loop-place
invariant-value::values_of_row-loop-place l =
    record {
      values : map slot_of l.values.items ≡ between l.start l.place (value_of l.items).slots;
      low : l.start ≤ l.place;
      high : l.place ≤ l.end;
    }

abbrev pub invariant-value::values_across-loop-field : goal.invariant-value::values_across-loop-field
invariant-value::values_across-loop-field l =
    map slot_of l.values.items ≡ across (map value_of (take l.field-index l.fields)) l.row
