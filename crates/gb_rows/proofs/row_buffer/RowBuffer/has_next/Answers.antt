use Rattle.std.proofs.Common.{◌≡◌, length, nat_lt, arith, ap, ◌∙◌}
use Rattle.gb_rows.specs.Buffer.{RowsWritten, rows_from}
use Rattle.gb_rows.proofs.BufferLemmas.{laid_counts, rows_count}
use Rattle.gb_rows.proofs.row_buffer.RowBuffer.has_next.Goals as goal

pub returns : goal.returns
returns c =
    let b = c.self.inside in
    let counts = laid_counts 0 b.ends.items b.cursors.items (length b.bytes.items) c.self.invariant in
    let rows = rows_from 0 b.ends.items b.cursors.items b.bytes.items in
    let count : c.len.result ≡ length rows = omega (arith, c.len.ensures, b.ends.ok.0, rows_count 0 b.ends.items b.cursors.items b.bytes.items counts) in
    ap (λ n. nat_lt b.next n) count ∙ ap (λ (v : RowsWritten). nat_lt v.next (length v.rows)) c.self.view_is
