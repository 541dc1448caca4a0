use Rattle.std.proofs.Common.{◌≡◌, ◌≤◌}
use Rattle.gb_cols.proofs.ChunkedLemmas.{before_chunk}
use Rattle.gb_cols.proofs.near_chunk.chunk_of.Given as goal

abbrev pub invariant-loop-place : goal.invariant-loop-place
invariant-loop-place g l = record { start_is : l.start ≡ before_chunk l.earlier l.place; from : l.start ≤ l.row }
