use Rattle.std.proofs.Common.{◌≡◌, ◌+◌, ◌++◌, map, drop, length, sum}
use Rattle.gb_series.specs.Series.{cut_at, value_of}
use Rattle.gb_series.proofs.flatten.flatten_series.Given as goal

abbrev pub invariant-loop-len : goal.invariant-loop-len
invariant-loop-len l =
    let column = value_of l.s in
    record {
      told : map value_of l.parts.items ++ cut_at column l.start (drop l.len-index l.len-items) ≡ cut_at column 0 column.chunks;
      rest : l.start + sum (drop l.len-index l.len-items) ≡ length column.slots;
    }
