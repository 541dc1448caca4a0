use Rattle.std.proofs.Common.{◌≡◌, ◌+◌, ◌*◌, map, length}
use Rattle.gb_series.specs.Series.{value_of}
use Rattle.gb_series.proofs.FieldLemmas.{JoinsAt}
use Rattle.gb_series.specs.Structs.{field_part}
use Rattle.gb_base.specs.DataType.{fields_of}
use Rattle.gb_series.specs.Depth.{depth, fields_depth}
use Rattle.gb_series.proofs.+append.Given as goal

abbrev pub decreases-series::SeriesSeriesTrait::append : goal.decreases-series::SeriesSeriesTrait::append
decreases-series::SeriesSeriesTrait::append l =
    4 * depth (value_of l.self.now).dtype + 3

abbrev pub decreases-nested::list::ListChunkedSeriesTrait::append : goal.decreases-nested::list::ListChunkedSeriesTrait::append
decreases-nested::list::ListChunkedSeriesTrait::append l =
    4 * depth l.self.now.dtype + 2

abbrev pub decreases-nested::array::ArrayChunkedSeriesTrait::append : goal.decreases-nested::array::ArrayChunkedSeriesTrait::append
decreases-nested::array::ArrayChunkedSeriesTrait::append l =
    4 * depth l.self.now.dtype + 2

abbrev pub decreases-nested::structs::StructChunkedSeriesTrait::append : goal.decreases-nested::structs::StructChunkedSeriesTrait::append
decreases-nested::structs::StructChunkedSeriesTrait::append l =
    4 * depth l.self.now.dtype + 2

abbrev pub decreases-nested::fields::append_fields : goal.decreases-nested::fields::append_fields
decreases-nested::fields::append_fields l =
    4 * fields_depth (fields_of (map field_part (map value_of l.fields.now.items))) + 5

abbrev pub decreases-nested::fields::put_behind : goal.decreases-nested::fields::put_behind
decreases-nested::fields::put_behind l =
    4 * depth (value_of l.field.now).dtype + 4

abbrev pub decreases-nested::fields::append_field : goal.decreases-nested::fields::append_field
decreases-nested::fields::append_field l =
    4 * depth (value_of l.field.now).dtype + 4

abbrev pub invariant-nested::fields::append_fields-loop-place : goal.invariant-nested::fields::append_fields-loop-place
invariant-nested::fields::append_fields-loop-place l =
    record {
      many : length l.fields.items ≡ length l.fn.fields.items;
      joins : JoinsAt l.count l.more l.place (map value_of l.fn.fields.items) (map value_of l.fn.others.items) (map value_of l.fields.items) (map value_of l.others.rest.items);
    }
