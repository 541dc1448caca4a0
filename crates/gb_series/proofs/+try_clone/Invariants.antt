use Rattle.std.proofs.Common.{◌≡◌, map, take}
use Rattle.gb_series.specs.Series.{value_of}
use Rattle.gb_series.proofs.+try_clone.Given as goal

abbrev pub invariant-nested::fields::clone_fields-loop-field : goal.invariant-nested::fields::clone_fields-loop-field
invariant-nested::fields::clone_fields-loop-field l =
    map value_of l.made.items ≡ map value_of (take l.field-index l.field-items)
