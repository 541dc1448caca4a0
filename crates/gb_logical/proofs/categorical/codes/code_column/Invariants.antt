use Rattle.gb_cols.proofs.ChunkedLemmas.{front_slots}
use Rattle.gb_logical.specs.CategoricalBuilder.{AreCoded}
use Rattle.gb_logical.proofs.categorical.codes.code_column.Given as goal

abbrev pub invariant-loop-chunk : goal.invariant-loop-chunk
invariant-loop-chunk l = AreCoded l.fn.known l.fn.codes (front_slots l.earlier l.chunk-index) l.known l.codes
