use Rattle.std.proofs.Common.{◌≡◌, length}
use Rattle.std.specs.Vec.Iter.{into_iter_items, into_iter_len}
use Rattle.gb_text.proofs.PartsLemmas.{IsSoFar}
use Rattle.gb_text.proofs.table.lines.Lines.read_parts.Given as goal

abbrev pub invariant-loop-part : goal.invariant-loop-part
invariant-loop-part g l = IsSoFar l.self l.cuts l.all (into_iter_items l.part-iterator) × (into_iter_len l.part-iterator ≡ length (into_iter_items l.part-iterator))
