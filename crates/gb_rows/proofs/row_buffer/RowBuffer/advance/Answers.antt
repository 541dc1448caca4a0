use Rattle.std.proofs.Common.{◌<◌, length, arith, subst, sym}
use Rattle.gb_rows.specs.Buffer.{RowsWritten, rows_from}
use Rattle.gb_rows.proofs.BufferLemmas.{next_end}
use Rattle.gb_rows.proofs.row_buffer.RowBuffer.advance.Goals as goal

pub overflow_add-self : goal.overflow_add-self
overflow_add-self c =
    let b = c.self.inside in
    let next : b.next < length (rows_from 0 b.ends.items b.cursors.items b.bytes.items) = subst (λ (v : RowsWritten). v.next < length v.rows) (sym c.self.view_is) c.requires in
    omega (arith, next_end b.ends.items b.cursors.items b.bytes.items b.next c.self.invariant next, c.len.ensures, c.len.type_inv, b.ends.ok.0)
