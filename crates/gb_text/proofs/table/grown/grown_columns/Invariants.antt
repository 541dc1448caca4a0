use Rattle.std.proofs.Common.{◌≡◌, ◌++◌, All, length, map}
use Rattle.std.specs.Vec.Iter.{into_iter_items, into_iter_len}
use Rattle.gb_text.specs.Building.{IsWhole, in_one_chunk}
use Rattle.gb_text.proofs.table.grown.grown_columns.Given as goal

abbrev pub invariant-loop-column : goal.invariant-loop-column
invariant-loop-column l =
    (map in_one_chunk l.all.items ++ map in_one_chunk (into_iter_items l.column-iterator) ≡ map in_one_chunk l.fn.columns.items)
    × All IsWhole (into_iter_items l.column-iterator) × (into_iter_len l.column-iterator ≡ length (into_iter_items l.column-iterator))
