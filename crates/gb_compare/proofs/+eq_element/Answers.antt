use Rattle.std.proofs.Common.{◌∙◌, ◌<◌, arith, length, map, slice_index_or, sym}
use Rattle.gb_defs.specs.Slot.{slot_at}
use Rattle.gb_values.specs.Array.{start_of}
use Rattle.gb_series.specs.Rows.{row_piece}
use Rattle.gb_series.specs.Series.{value_of}
use Rattle.gb_series.specs.Structs.{across}
use Rattle.gb_series.proofs.FieldLemmas.{all_at, depth_read}
use Rattle.gb_compare.proofs.NestedLemmas.{apart, fields_differ, items_more, pieces_differ, rows_equal, valid_held}
use Rattle.gb_compare.proofs.+eq_element.Goals as goal

pub nested::ListChunkedTotalEqInner::eq_element-returns : goal.nested::ListChunkedTotalEqInner::eq_element-returns
nested::ListChunkedTotalEqInner::eq_element-returns t c =
    let slots = c.args.self.now.slots in
    let items = (value_of c.items_by_row.result.0.now).slots in
    let ends = c.items_by_row.result.1.now in
    let rows = c.items_by_row.ensures.rows in
    let a = c.args.idx_a in
    let b = c.args.idx_b in
    let first = rows.held a c.requires.inside_a (valid_held c.is_valid.result (slot_at slots a) c.is_valid.ensures c.if-not-is_valid.false) in
    let second = rows.held b c.requires.inside_b (valid_held c.is_valid-2.result (slot_at slots b) c.is_valid-2.ensures c.if-not-is_valid-2.false) in
    rows_equal c.same_pieces.result (slot_at slots a) (slot_at slots b) (row_piece ends a items) (row_piece ends b items) first second c.same_pieces.ensures

pub nested::ArrayChunkedTotalEqInner::eq_element-returns : goal.nested::ArrayChunkedTotalEqInner::eq_element-returns
nested::ArrayChunkedTotalEqInner::eq_element-returns t c =
    let slots = c.args.self.now.slots in
    let items = (value_of c.items_by_row.result.0.now).slots in
    let ends = c.items_by_row.result.1.now in
    let rows = c.items_by_row.ensures.rows in
    let a = c.args.idx_a in
    let b = c.args.idx_b in
    let first = rows.held a c.requires.inside_a (valid_held c.is_valid.result (slot_at slots a) c.is_valid.ensures c.if-not-is_valid.false) in
    let second = rows.held b c.requires.inside_b (valid_held c.is_valid-2.result (slot_at slots b) c.is_valid-2.ensures c.if-not-is_valid-2.false) in
    rows_equal c.same_pieces.result (slot_at slots a) (slot_at slots b) (row_piece ends a items) (row_piece ends b items) first second c.same_pieces.ensures

pub nested::StructChunkedTotalEqInner::eq_element-returns : goal.nested::StructChunkedTotalEqInner::eq_element-returns
nested::StructChunkedTotalEqInner::eq_element-returns t c =
    let slots = c.args.self.now.slots in
    let frame = map value_of c.fields.result.now in
    let a = c.args.idx_a in
    let b = c.args.idx_b in
    let first = c.fields.ensures.held a c.requires.inside_a (valid_held c.is_valid.result (slot_at slots a) c.is_valid.ensures c.if-not-is_valid.false) in
    let second = c.fields.ensures.held b c.requires.inside_b (valid_held c.is_valid-2.result (slot_at slots b) c.is_valid-2.ensures c.if-not-is_valid-2.false) in
    rows_equal c.same_across.result (slot_at slots a) (slot_at slots b) (across frame a) (across frame b) first second c.same_across.ensures

pub nested::same_across-eq_element-requires : goal.nested::same_across-eq_element-requires
nested::same_across-eq_element-requires t c =
    let fields = c.args.fields.now in
    let at = c.loop-field.field-index in
    let field = c.field-item.result in
    let lt = c.loop-field-test.true in
    let read = c.field-item.is in (
      omega (arith, c.decreases, depth_read value_of fields at field lt read),
      (all_at value_of (λ f. c.args.a < length f.slots) fields at field lt read c.requires.a_inside, all_at value_of (λ f. c.args.b < length f.slots) fields at field lt read c.requires.b_inside),
    )

pub nested::same_across-returns-then-not-eq_element : goal.nested::same_across-returns-then-not-eq_element
nested::same_across-returns-then-not-eq_element t c =
    fields_differ value_of c.args.fields.now c.loop-field.field-index c.field-item.result c.args.a c.args.b c.loop-field-test.true c.field-item.is
    (λ same. apart (sym (c.eq_element.ensures.1 same) ∙ c.if-not-eq_element.true))

pub nested::same_items-loop-place-preserved : goal.nested::same_items-loop-place-preserved
nested::same_items-loop-place-preserved t c =
    let slots = (value_of c.args.items.now).slots in
    items_more slots c.args.a c.args.b c.args.count c.requires.a_inside c.requires.b_inside c.loop-place.place c.loop-place-test.true
    c.loop-place.invariant (c.eq_element.ensures.0 c.if-not-eq_element.false)

pub nested::same_pieces-returns-then-ends-b : goal.nested::same_pieces-returns-then-ends-b
nested::same_pieces-returns-then-ends-b t c =
    let slots = (value_of c.args.items.now).slots in
    let ends = c.args.ends.now in
    let a = c.args.a in
    let b = c.args.b in
    pieces_differ slots (start_of 0 ends a) (slice_index_or ends a 0) (start_of 0 ends b) (slice_index_or ends b 0) c.requires.placed_a.high c.requires.placed_b.high
    (λ e. omega (arith, c.if-ends-b.true, e, c.start_at-start_a.ensures, c.start_at-start_b.ensures))
