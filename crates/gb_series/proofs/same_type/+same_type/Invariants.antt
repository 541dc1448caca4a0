use Rattle.std.proofs.Common.{◌≡◌, ◌↔◌, ◌+◌, ◌*◌, map, drop, length}
use Rattle.gb_base.specs.DataType.{fields_of}
use Rattle.gb_series.specs.Depth.{depth, fields_depth}
use Rattle.gb_series.specs.Series.{value_of}
use Rattle.gb_series.specs.Structs.{field_part}
use Rattle.gb_series.proofs.same_type.+same_type.Given as goal

abbrev pub decreases-same_type : goal.decreases-same_type
decreases-same_type l = 4 * depth (value_of l.a.now).dtype + 3

abbrev pub decreases-same_lists : goal.decreases-same_lists
decreases-same_lists l = 4 * depth l.a.now.dtype + 2

abbrev pub decreases-same_arrays : goal.decreases-same_arrays
decreases-same_arrays l = 4 * depth l.a.now.dtype + 2

abbrev pub decreases-same_structs : goal.decreases-same_structs
decreases-same_structs l = 4 * depth l.a.now.dtype + 2

abbrev pub decreases-same_fields : goal.decreases-same_fields
decreases-same_fields l = 4 * fields_depth (fields_of (map field_part (map value_of l.a.now))) + 4

abbrev pub invariant-same_fields-loop-place : goal.invariant-same_fields-loop-place
invariant-same_fields-loop-place l = record {
  many : length l.a ≡ length l.b;
  rest : (map field_part (map value_of l.a) ≡ map field_part (map value_of l.b)) ↔ (map field_part (map value_of (drop l.place l.a)) ≡ map field_part (map value_of (drop l.place l.b)));
}
