use Rattle.std.proofs.Common.{◌≡◌, map}
use Rattle.std.specs.List.{All}
use Rattle.gb_values.specs.Keys.{IsToldByWide, wide_key}
use Rattle.gb_cols.proofs.ChunkedLemmas.{front_slots}
use Rattle.gb_cols.proofs.primitive.ChunkedArray+NumberValues+T.wide_words.Given as goal

abbrev pub invariant-loop-chunk : goal.invariant-loop-chunk
invariant-loop-chunk g l =
    let front = front_slots l.chunk-items l.chunk-index in
    record { keys : l.keys.items ≡ map wide_key front; back : All (IsToldByWide g.T.Native.Native.flat) front }
