use Rattle.std.proofs.Common.{◌≡◌, map}
use Rattle.std.specs.List.{All}
use Rattle.gb_defs.specs.ColumnType.{Boolean}
use Rattle.gb_values.specs.Keys.{IsToldByWord, word_key}
use Rattle.gb_cols.proofs.ChunkedLemmas.{front_slots}
use Rattle.gb_cols.proofs.boolean.ChunkedArray+FlagValues.words.Given as goal

abbrev pub invariant-loop-chunk : goal.invariant-loop-chunk
invariant-loop-chunk l =
    let front = front_slots l.chunk-items l.chunk-index in
    record { keys : l.keys.items ≡ map word_key front; back : All (IsToldByWord Boolean) front }
