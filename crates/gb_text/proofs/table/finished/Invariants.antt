use Rattle.std.proofs.Common.{◌≡◌, ◌++◌, All, length}
use Rattle.std.specs.List.{filter_map}
use Rattle.std.specs.Vec.Iter.{into_iter_items, into_iter_len}
use Rattle.gb_text.specs.Builder.{read_in}
use Rattle.gb_text.specs.Building.{IsWhole, read_if_kept}
use Rattle.gb_text.proofs.table.finished.Given as goal

abbrev pub invariant-loop-builder : goal.invariant-loop-builder
invariant-loop-builder l =
    (read_in l.columns.items ++ filter_map read_if_kept (into_iter_items l.builder-iterator) ≡ filter_map read_if_kept l.fn.builders.items)
    × All IsWhole (into_iter_items l.builder-iterator) × (into_iter_len l.builder-iterator ≡ length (into_iter_items l.builder-iterator))
