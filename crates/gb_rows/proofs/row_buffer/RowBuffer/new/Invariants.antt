use Rattle.std.proofs.Common.{◌≡◌, ◌++◌, drop}
use Rattle.gb_defs.specs.Flat.{starts_from}
use Rattle.gb_rows.specs.Buffer.{end_behind, ends_from}
use Rattle.gb_rows.proofs.row_buffer.RowBuffer.new.Given as goal

-- with what comes of the lengths that are left, the ends and cursors are those of all
abbrev pub invariant-loop-count : goal.invariant-loop-count
invariant-loop-count l = record {
  ends : l.ends.items ++ ends_from l.end (drop l.count-index l.lengths) ≡ ends_from 0 l.lengths;
  cursors : l.cursors.items ++ starts_from l.end (drop l.count-index l.lengths) ≡ starts_from 0 l.lengths;
  last : end_behind l.end (drop l.count-index l.lengths) ≡ end_behind 0 l.lengths;
}
