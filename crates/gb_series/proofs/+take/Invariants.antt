use Rattle.std.proofs.Common.{◌≡◌, map, take, ◌+◌, ◌*◌}
use Rattle.gb_series.specs.Series.{value_of}
use Rattle.gb_defs.specs.Column.{taken}
use Rattle.gb_series.specs.Structs.{field_part}
use Rattle.gb_base.specs.DataType.{fields_of}
use Rattle.gb_series.specs.Depth.{depth, fields_depth}
use Rattle.gb_series.proofs.+take.Given as goal

abbrev pub decreases-series::SeriesSeriesTrait::take : goal.decreases-series::SeriesSeriesTrait::take
decreases-series::SeriesSeriesTrait::take l =
    4 * depth (value_of l.self.now).dtype + 3

abbrev pub decreases-nested::list::ListChunkedSeriesTrait::take : goal.decreases-nested::list::ListChunkedSeriesTrait::take
decreases-nested::list::ListChunkedSeriesTrait::take l =
    4 * depth l.self.now.dtype + 2

abbrev pub decreases-nested::array::ArrayChunkedSeriesTrait::take : goal.decreases-nested::array::ArrayChunkedSeriesTrait::take
decreases-nested::array::ArrayChunkedSeriesTrait::take l =
    4 * depth l.self.now.dtype + 2

abbrev pub decreases-nested::structs::StructChunkedSeriesTrait::take : goal.decreases-nested::structs::StructChunkedSeriesTrait::take
decreases-nested::structs::StructChunkedSeriesTrait::take l =
    4 * depth l.self.now.dtype + 2

abbrev pub decreases-nested::fields::take_fields : goal.decreases-nested::fields::take_fields
decreases-nested::fields::take_fields l =
    4 * fields_depth (fields_of (map field_part (map value_of l.fields.now.items))) + 4

abbrev pub invariant-nested::fields::take_fields-loop-field : goal.invariant-nested::fields::take_fields-loop-field
invariant-nested::fields::take_fields-loop-field l =
    map value_of l.made.items ≡ map (taken l.rows) (map value_of (take l.field-index l.field-items))
