use Rattle.std.proofs.Common.{◌≡◌, ℕ, List, [], ◌++◌, ◌+◌, ◌<◌, length, set, get_or, arith, ap, sym, subst, ◌∙◌}
use Rattle.gb_rows.specs.Buffer.{AreLaid, RowsWritten, rows_from, written}
use Rattle.gb_rows.proofs.BufferLemmas.{next_cursor, next_end, next_high, next_inside, next_kept, next_laid, next_rows}
use Rattle.gb_rows.proofs.row_buffer.RowBuffer.append.Goals as goal

pub index-at-requires : goal.index-at-requires
index-at-requires c =
    let b = c.self.inside in
    let next : b.next < length (rows_from 0 b.ends.items b.cursors.items b.bytes.items) = subst (λ (v : RowsWritten). v.next < length v.rows) (sym c.self.view_is) c.requires in
    omega (arith, next_cursor b.ends.items b.cursors.items b.bytes.items b.next c.self.invariant next, b.cursors.ok.0)

pub index-requires : goal.index-requires
index-requires c =
    let b = c.self.inside in
    let next : b.next < length (rows_from 0 b.ends.items b.cursors.items b.bytes.items) = subst (λ (v : RowsWritten). v.next < length v.rows) (sym c.self.view_is) c.requires in
    omega (arith, next_end b.ends.items b.cursors.items b.bytes.items b.next c.self.invariant next, b.ends.ok.0)

pub overflow_sub-index : goal.overflow_sub-index
overflow_sub-index c =
    let b = c.self.inside in
    let next : b.next < length (rows_from 0 b.ends.items b.cursors.items b.bytes.items) = subst (λ (v : RowsWritten). v.next < length v.rows) (sym c.self.view_is) c.requires in
    next_high b.ends.items b.cursors.items b.bytes.items b.next c.self.invariant next _ _ c.index-at.ensures c.index.ensures

pub write_at-requires : goal.write_at-requires
write_at-requires c =
    let b = c.self.inside in
    let next : b.next < length (rows_from 0 b.ends.items b.cursors.items b.bytes.items) = subst (λ (v : RowsWritten). v.next < length v.rows) (sym c.self.view_is) c.requires in
    let high = next_high b.ends.items b.cursors.items b.bytes.items b.next c.self.invariant next _ _ c.index-at.ensures c.index.ensures in
    let inside = next_inside b.ends.items b.cursors.items b.bytes.items b.next c.self.invariant next _ _ c.index-at.ensures c.index.ensures in
    omega (arith, high, inside, c.if-index-at.false, c.deref_mut.ensures.value, ap length c.deref_mut.ensures.value)

pub index_mut-requires : goal.index_mut-requires
index_mut-requires c =
    let b = c.self.inside in
    let next : b.next < length (rows_from 0 b.ends.items b.cursors.items b.bytes.items) = subst (λ (v : RowsWritten). v.next < length v.rows) (sym c.self.view_is) c.requires in
    omega (arith, next_cursor b.ends.items b.cursors.items b.bytes.items b.next c.self.invariant next, b.cursors.ok.0)

pub invariant_of-self : goal.invariant_of-self
invariant_of-self c =
    let b = c.self.inside in
    let next : b.next < length (rows_from 0 b.ends.items b.cursors.items b.bytes.items) = subst (λ (v : RowsWritten). v.next < length v.rows) (sym c.self.view_is) c.requires in
    let laid = next_laid b.ends.items b.cursors.items b.bytes.items b.next c.self.invariant next _ _ c.index-at.ensures c.index.ensures c.args.part.now c.if-index-at.false in
    let kept = next_kept b.ends.items b.cursors.items b.bytes.items b.next c.self.invariant next _ _ c.index-at.ensures c.index.ensures c.args.part.now c.if-index-at.false _ _ _ b.bytes.ok.0 c.deref_mut.ensures.value c.write_at.ensures in
    subst (λ (bytes : List ℕ). AreLaid 0 b.ends.items (set b.cursors.items b.next (c.index-at.result.now + length c.args.part.now)) (length bytes)) (sym kept) laid

pub returns : goal.returns
returns c =
    let b = c.self.inside in
    let next : b.next < length (rows_from 0 b.ends.items b.cursors.items b.bytes.items) = subst (λ (v : RowsWritten). v.next < length v.rows) (sym c.self.view_is) c.requires in
    let rows = next_rows b.ends.items b.cursors.items b.bytes.items b.next c.self.invariant next _ _ c.index-at.ensures c.index.ensures c.args.part.now c.if-index-at.false in
    let kept = next_kept b.ends.items b.cursors.items b.bytes.items b.next c.self.invariant next _ _ c.index-at.ensures c.index.ensures c.args.part.now c.if-index-at.false _ _ _ b.bytes.ok.0 c.deref_mut.ensures.value c.write_at.ensures in
    let moved = set b.cursors.items b.next (c.index-at.result.now + length c.args.part.now) in
    let P : RowsWritten → Type 0 = λ v. rows_from 0 b.ends.items moved (written c.index-at.result.now c.args.part.now b.bytes.items) ≡ set v.rows v.next (get_or v.rows v.next [] ++ c.args.part.now) in
    record {
      rows = ap (rows_from 0 b.ends.items moved) kept ∙ subst P c.self.view_is rows;
      room = ap (λ (v : RowsWritten). v.room) c.self.view_is;
      next = ap (λ (v : RowsWritten). v.next) c.self.view_is;
    }
