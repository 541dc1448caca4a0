use Rattle.std.proofs.Common.{◌≡◌, ◌∙◌, ap, sym, refl, length, map, zero-add}
use Rattle.gb_rows.specs.Buffer.{RowsWritten, rooms_from, rows_from}
use Rattle.gb_rows.proofs.BufferLemmas.{full_rows, laid_rises}
use Rattle.gb_rows.proofs.row_buffer.RowBuffer.into_parts.Goals as goal

pub returns-clause-pieces : goal.returns-clause-pieces
returns-clause-pieces c =
    let b = c.self.inside in
    let full : map length (rows_from 0 b.ends.items b.cursors.items b.bytes.items) ≡ rooms_from 0 b.ends.items =
    ap (λ (v : RowsWritten). map length v.rows) c.self.view_is ∙ c.requires ∙ sym (ap (λ (v : RowsWritten). v.room) c.self.view_is) in
    sym (full_rows 0 b.ends.items b.cursors.items (length b.bytes.items) b.bytes.items b.bytes.items c.self.invariant (sym (zero-add (length b.bytes.items))) refl full)
    ∙ ap (λ (v : RowsWritten). v.rows) c.self.view_is

pub returns-clause-rises : goal.returns-clause-rises
returns-clause-rises c =
    let b = c.self.inside in
    laid_rises 0 b.ends.items b.cursors.items (length b.bytes.items) c.self.invariant
