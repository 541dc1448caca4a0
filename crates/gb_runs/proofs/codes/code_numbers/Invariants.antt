use Rattle.std.proofs.Common.{◌≡◌}
use Rattle.gb_cols.proofs.ChunkedLemmas.{front_slots}
use Rattle.gb_runs.specs.Codes.{numbers_of}
use Rattle.gb_runs.proofs.codes.code_numbers.Given as goal

abbrev pub invariant-loop-chunk : goal.invariant-loop-chunk
invariant-loop-chunk g l = l.numbers.items ≡ numbers_of l.count (front_slots l.earlier l.chunk-index)
