use Rattle.std.proofs.Common.{◌≡◌, length}
use Rattle.std.specs.Vec.Iter.{into_iter_items, into_iter_len}
use Rattle.gb_paths.proofs.PackLemmas.{IsPackedTo}
use Rattle.gb_paths.proofs.number_several.pack_round.Given as goal

abbrev pub invariant-loop-numbers : goal.invariant-loop-numbers
invariant-loop-numbers g l = record {
  packed : IsPackedTo l.keys l.fn.packed l.packed (into_iter_items l.numbers-iterator);
  left : into_iter_len l.numbers-iterator ≡ length (into_iter_items l.numbers-iterator);
}
