use Rattle.std.specs.List.{All}
use Rattle.gb_cols.specs.Codes.{IsCodeBelow}
use Rattle.gb_cols.proofs.ChunkedLemmas.{front_slots}
use Rattle.gb_cols.proofs.codes.codes_in_range.Given as goal

abbrev pub invariant-loop-chunk : goal.invariant-loop-chunk
invariant-loop-chunk g l = All (IsCodeBelow l.n) (front_slots l.earlier l.chunk-index)
