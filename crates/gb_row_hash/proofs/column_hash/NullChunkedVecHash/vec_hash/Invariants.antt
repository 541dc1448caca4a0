use Rattle.std.proofs.Common.{◌≡◌, ◌+◌, ◌-◌, ◌≤◌, replicate}
use Rattle.gb_row_hash.proofs.column_hash.NullChunkedVecHash.vec_hash.Given as goal

-- so many hashes of nulls
abbrev pub invariant-loop-row : goal.invariant-loop-row
invariant-loop-row g l = record {
  more : l.buf.items ≡ replicate l._row l.null;
  room : l.buf.len + (l.count - l._row) ≤ l.buf.cap;
}
