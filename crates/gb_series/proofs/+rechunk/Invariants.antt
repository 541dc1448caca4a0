use Rattle.std.proofs.Common.{◌≡◌, map, take}
use Rattle.gb_series.specs.Series.{value_of}
use Rattle.gb_defs.specs.Column.{rechunked}
use Rattle.gb_series.proofs.+rechunk.Given as goal

abbrev pub invariant-nested::fields::rechunk_fields-loop-field : goal.invariant-nested::fields::rechunk_fields-loop-field
invariant-nested::fields::rechunk_fields-loop-field l =
    map value_of l.made.items ≡ map (rechunked) (map value_of (take l.field-index l.field-items))
