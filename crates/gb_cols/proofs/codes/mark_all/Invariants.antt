use Rattle.gb_cols.specs.Codes.{HasMarked}
use Rattle.gb_cols.proofs.ChunkedLemmas.{front_slots}
use Rattle.gb_cols.proofs.codes.mark_all.Given as goal

abbrev pub invariant-loop-chunk : goal.invariant-loop-chunk
invariant-loop-chunk g l = HasMarked l.first (front_slots l.earlier l.chunk-index) l.fn.marks l.marks
