use Rattle.std.proofs.Common.{◌<◌, length}
use Rattle.gb_defs.specs.RowBytes.{ended_bytes}
use Rattle.gb_rows.specs.Buffer.{IsAppended, RowsWritten}
use Rattle.gb_rows.proofs.row_buffer.RowBuffer.append_ended.Given as goal

-- what comes behind what is written is what comes behind the whole
abbrev pub invariant-loop-front : goal.invariant-loop-front
invariant-loop-front l = record {
  next : l.self.next < length l.self.rows;
  rest : (after : RowsWritten) → IsAppended (ended_bytes l.rest) l.self after → IsAppended (ended_bytes l.fn.value) l.fn.self after;
}

abbrev pub decreases-loop-front : goal.decreases-loop-front
decreases-loop-front l = length l.rest
