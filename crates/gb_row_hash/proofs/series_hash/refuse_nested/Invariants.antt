use Rattle.std.proofs.Common.{◌≡◌, drop, map}
use Rattle.gb_row_hash.specs.Rows.{first_key_fault}
use Rattle.gb_series.specs.Series.{value_of}
use Rattle.gb_row_hash.proofs.series_hash.refuse_nested.Given as goal

-- the first column without hashes is among those that are left
abbrev pub invariant-loop-key : goal.invariant-loop-key
invariant-loop-key l = first_key_fault (map value_of l.keys) ≡ first_key_fault (map value_of (drop l.key-index l.keys))
