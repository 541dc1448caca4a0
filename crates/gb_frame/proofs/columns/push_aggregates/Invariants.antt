use Rattle.std.proofs.Common.{◌≡◌, ◌+◌, length}
use Rattle.std.specs.Vec.Iter.{into_iter_items, into_iter_len}
use Rattle.gb_frame.proofs.RoundLemmas.{IsPushedTo}
use Rattle.gb_frame.proofs.columns.push_aggregates.Given as goal

abbrev pub invariant-loop-column : goal.invariant-loop-column
invariant-loop-column g l = record {
  pushed : IsPushedTo l.frame l.over l.aggs (l.fn.range.0 + l.fn.range.1) l.columns.items (into_iter_items l.column-iterator);
  left : into_iter_len l.column-iterator ≡ length (into_iter_items l.column-iterator);
}
