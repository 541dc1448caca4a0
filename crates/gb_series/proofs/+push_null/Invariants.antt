use Rattle.std.proofs.Common.{◌≤◌, length, map, ◌≡◌, ◌+◌, ◌*◌}
use Rattle.gb_series.specs.Series.{value_of}
use Rattle.gb_series.specs.Structs.{KeepAll, field_part}
use Rattle.gb_series.proofs.FieldLemmas.{LongUpTo}
use Rattle.gb_base.specs.DataType.{fields_of}
use Rattle.gb_series.specs.Depth.{depth, fields_depth}
use Rattle.gb_series.proofs.+push_null.Given as goal

abbrev pub decreases-series::SeriesSeriesTrait::push_null : goal.decreases-series::SeriesSeriesTrait::push_null
decreases-series::SeriesSeriesTrait::push_null l =
    6 * depth (value_of l.self.now).dtype + 5

abbrev pub decreases-nested::structs::StructChunkedSeriesTrait::push_null : goal.decreases-nested::structs::StructChunkedSeriesTrait::push_null
decreases-nested::structs::StructChunkedSeriesTrait::push_null l =
    6 * depth l.self.now.dtype + 4

abbrev pub decreases-nested::structs::StructChunked::put_null : goal.decreases-nested::structs::StructChunked::put_null
decreases-nested::structs::StructChunked::put_null l =
    6 * depth l.self.now.dtype + 3

abbrev pub decreases-nested::fields::lengthen_fields : goal.decreases-nested::fields::lengthen_fields
decreases-nested::fields::lengthen_fields l =
    6 * fields_depth (fields_of (map field_part (map value_of l.fields.now.items))) + 7

abbrev pub decreases-nested::fields::lengthen : goal.decreases-nested::fields::lengthen
decreases-nested::fields::lengthen l =
    6 * depth (value_of l.field.now).dtype + 6

abbrev pub invariant-nested::fields::lengthen_fields-loop-place : goal.invariant-nested::fields::lengthen_fields-loop-place
invariant-nested::fields::lengthen_fields-loop-place l =
    record {
      many : length l.fields.items ≡ length l.fn.fields.items;
      kept : KeepAll l.count (map value_of l.fn.fields.items) (map value_of l.fields.items);
      long : LongUpTo l.count l.place (map value_of l.fields.items);
    }
