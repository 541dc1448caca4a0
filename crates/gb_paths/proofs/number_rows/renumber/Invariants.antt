use Rattle.std.proofs.Common.{◌≡◌, ◌++◌, drop, length}
use Rattle.gb_paths.specs.Numbering.{firsts_in, renumbered}
use Rattle.gb_paths.proofs.number_rows.renumber.Given as goal

abbrev pub invariant-loop-part : goal.invariant-loop-part
invariant-loop-part l = record {
  so_far : l.all.items ++ renumbered l.rest (drop l.part-index l.parts) ≡ renumbered l.numbers l.parts;
  many : length l.rest ≡ length (firsts_in (drop l.part-index l.parts));
}
