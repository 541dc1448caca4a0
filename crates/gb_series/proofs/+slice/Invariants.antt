use Rattle.std.proofs.Common.{◌≡◌, map, take, of_z, to_z, w64}
use Rattle.gb_series.specs.Series.{value_of}
use Rattle.gb_defs.specs.Column.{sliced}
use Rattle.gb_series.proofs.+slice.Given as goal

abbrev pub invariant-nested::fields::slice_fields-loop-field : goal.invariant-nested::fields::slice_fields-loop-field
invariant-nested::fields::slice_fields-loop-field l =
    map value_of l.made.items ≡ map (sliced (to_z w64 (of_z w64 l.offset)) l.len) (map value_of (take l.field-index l.field-items))
