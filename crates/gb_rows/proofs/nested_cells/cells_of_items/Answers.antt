use Rattle.std.proofs.Common.{◌≡◌, ◌<◌, ◌++◌, ◌∷◌, [], length, ap, arith, sym, ◌∙◌, length-append}
use Rattle.gb_defs.specs.Column.{ColumnValue}
use Rattle.gb_defs.specs.RowBytes.{slot_bytes}
use Rattle.gb_defs.specs.Slot.{Bytes, is_nil, slot_at}
use Rattle.gb_rows.specs.Keys.{items_body}
use Rattle.gb_rows.proofs.KeyLemmas.{made_more, nil_cell, not_false, not_true}
use Rattle.gb_rows.proofs.nested_cells.cells_of_items.Goals.{then-is_valid+in_ok-push_items, else-is_valid+in_ok-push}
use Rattle.gb_rows.proofs.nested_cells.cells_of_items.Goals as goal

pub loop-row-preserved : goal.loop-row-preserved
loop-row-preserved g c =
    let column = g.C.SeriesTrait.value c.args.column.now in
    let t = column.dtype in
    let slots = column.slots in
    let loop = c.loop-row in
    let row = loop.row in
    let lt : row < length slots = omega (arith, c.loop-row-test.true, loop.auto.row-end, c.len-row-end.ensures.value) in
    let body = items_body c.args.ends.now c.args.items.now row c.args.mark.now c.args.end.now in
    let cell : c.if-is_valid.cell.items ≡ slot_bytes t (slot_at slots row) = elim c.if-is_valid.branch [
      | then-is_valid+in_ok-push_items w ↦
          ap (λ v. v.items) w.cell-is ∙ w.in_ok-push_items.ensures ∙ ap (λ l. l ++ 1 ∷ body) c.clear.ensures.items
          ∙ sym (c.requires.told row lt (not_true (is_nil (slot_at slots row)) (sym c.is_valid.ensures ∙ w.if-is_valid.true)))
      | else-is_valid+in_ok-push w ↦
          ap (λ v. v.items) w.cell-is ∙ w.in_ok-push.ensures.items ∙ ap (λ l. l ++ 0 ∷ []) c.clear.ensures.items
          ∙ sym (nil_cell t (slot_at slots row) (not_false (is_nil (slot_at slots row)) (sym c.is_valid.ensures ∙ w.if-is_valid.false)))
    ] in
    let more = c.in_ok-push-2.ensures.ok in
    let bytes = c.deref.result.now in
    record {
      cells = made_more t slots row loop.made c.push-in-loop-row.new.self bytes lt loop.invariant.cells more (c.deref.ensures.value ∙ cell);
      many = omega (arith, ap (λ (v : ColumnValue). length v.slots) more, length-append loop.made.slots (Bytes bytes ∷ []), loop.invariant.many);
    }
