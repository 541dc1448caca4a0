use Rattle.std.proofs.Common.{map, drop}
use Rattle.gb_defs.specs.Column.{names_of}
use Rattle.gb_series.specs.Series.{value_of}
use Rattle.gb_base.proofs.NameLemmas.{HasSeen}
use Rattle.gb_series.proofs.frame.repeated_name.Given as goal

abbrev pub invariant-loop-column : goal.invariant-loop-column
invariant-loop-column l = HasSeen (names_of (map value_of l.column-items)) (names_of (map value_of (drop l.column-index l.column-items))) l.seen
