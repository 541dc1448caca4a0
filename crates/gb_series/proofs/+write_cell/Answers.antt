use Rattle.std.proofs.Common.{rules, ◌∙◌, ◌<◌, ◌++◌, false, ap, arith, length, subst, sym, ◌≡◌, Bool, true, not, codes, refl, ◌∷◌, map, take, List, get_or}
use Rattle.gb_defs.specs.CellText.{cell_text, quoted, parts_text}
use Rattle.gb_defs.specs.Column.{ColumnValue}
use Rattle.gb_defs.specs.ColumnType.{ListOf, part_type, Fits}
use Rattle.gb_defs.specs.Slices.{between}
use Rattle.gb_cols.specs.Column.{cell_of}
use Rattle.gb_series.specs.Series.{value_of}
use Rattle.gb_values.specs.Array.{start_of}
use Rattle.std.specs.List.{All}
use Rattle.gb_base.specs.DataType.{fields_of}
use Rattle.gb_series.specs.Depth.{depth, fields_depth}
use Rattle.gb_series.specs.Text.{list_text}
use Rattle.gb_series.proofs.ListLemmas.{absent_slot, flag_inside, present_slot, row_high, row_inside, row_low}
use Rattle.gb_series.proofs.RowLemmas.{get_or_any}
use Rattle.gb_defs.specs.Slot.{slot_at, Nil, is_nil, items_of}
use Rattle.gb_series.proofs.ArrayLemmas.{cell_alike}
use Rattle.std.proofs.lemmas.List.Elements.{All-get_or}
use Rattle.gb_series.proofs.TextLemmas.{quoted_item, text_more}
use Rattle.gb_series.specs.Structs.{across, field_part, struct_type}
use Rattle.gb_series.specs.declared.series.Series.{Series}
use Rattle.gb_series.proofs.FieldLemmas.{rows_below, all_at, depth_read, fields_text}
use Rattle.gb_series.proofs.StructLemmas.{absent_slot as absent_struct, flag_inside as flag_inside_struct, present_slot as present_struct}
use Rattle.std.proofs.lemmas.List.{take_all}
use Rattle.gb_series.proofs.+write_cell.Goals as goal

pub nested::list::ListChunkedSeriesTrait::write_cell-index-requires : goal.nested::list::ListChunkedSeriesTrait::write_cell-index-requires
nested::list::ListChunkedSeriesTrait::write_cell-index-requires t c =
    let own = c.self.inside in
    let row = c.args.row in
    let inside = subst (λ (v : ColumnValue). row < length v.slots) (sym c.self.view_is) c.requires.1.1 in
    omega (arith, flag_inside own.rows own.present.items own.ends.items (value_of own.items) c.self.invariant row inside, own.present.ok.0)

pub nested::list::ListChunkedSeriesTrait::write_cell-returns-then-not-index : goal.nested::list::ListChunkedSeriesTrait::write_cell-returns-then-not-index
nested::list::ListChunkedSeriesTrait::write_cell-returns-then-not-index t c =
    let own = c.self.inside in
    let row = c.args.row in
    let inside = subst (λ (v : ColumnValue). row < length v.slots) (sym c.self.view_is) c.requires.1.1 in
    let flag_lt = flag_inside own.rows own.present.items own.ends.items (value_of own.items) c.self.invariant row inside in
    let flag = sym (c.index.ensures ∙ get_or_any own.present.items row _ false flag_lt) ∙ c.if-not-index.true in
    let before = c.args.to.now.items in
    let word = c.args.null_word.now in
    let slot = absent_slot own.rows own.present.items own.ends.items (value_of own.items) c.self.invariant row flag in
    c.in_ok-extend_from_slice.ensures.items ∙ ap (λ t. before ++ t) c.as_bytes.ensures.value
    ∙ ap (λ s. before ++ cell_text word (ListOf (value_of own.items).dtype) s) (sym slot) ∙ ap (λ v. before ++ cell_of word v row) c.self.view_is

pub nested::list::ListChunkedSeriesTrait::write_cell-start_at-start-requires : goal.nested::list::ListChunkedSeriesTrait::write_cell-start_at-start-requires
nested::list::ListChunkedSeriesTrait::write_cell-start_at-start-requires t c =
    let own = c.self.inside in
    let row = c.args.row in
    let inside = subst (λ (v : ColumnValue). row < length v.slots) (sym c.self.view_is) c.requires.1.1 in
    let lt = row_inside own.rows own.present.items own.ends.items (value_of own.items) c.self.invariant row inside in
    omega (arith, lt, ap length c.deref.ensures.value)

pub nested::list::ListChunkedSeriesTrait::write_cell-index-requires-2 : goal.nested::list::ListChunkedSeriesTrait::write_cell-index-requires-2
nested::list::ListChunkedSeriesTrait::write_cell-index-requires-2 t c =
    let own = c.self.inside in
    let row = c.args.row in
    let inside = subst (λ (v : ColumnValue). row < length v.slots) (sym c.self.view_is) c.requires.1.1 in
    omega (arith, row_inside own.rows own.present.items own.ends.items (value_of own.items) c.self.invariant row inside, own.ends.ok.0)

pub nested::list::ListChunkedSeriesTrait::write_cell-write_items-requires : goal.nested::list::ListChunkedSeriesTrait::write_cell-write_items-requires
nested::list::ListChunkedSeriesTrait::write_cell-write_items-requires t c =
    let own = c.self.inside in
    let row = c.args.row in
    let inside = subst (λ (v : ColumnValue). row < length v.slots) (sym c.self.view_is) c.requires.1.1 in
    let lt = row_inside own.rows own.present.items own.ends.items (value_of own.items) c.self.invariant row inside in
    let low = row_low own.rows own.present.items own.ends.items (value_of own.items) c.self.invariant row inside in
    let high = row_high own.rows own.present.items own.ends.items (value_of own.items) c.self.invariant row inside in
    let start = c.start_at-start.ensures ∙ ap (λ es. start_of 0 es row) c.deref.ensures.value in
    let end = c.index-2.ensures ∙ get_or_any own.ends.items row _ 0 lt in
    (omega (arith, c.requires.1.0, ap (λ v. depth v.dtype) c.self.view_is), (omega (arith, low, start, end), (omega (arith, high, end), c.in_ok-quotes.ensures)))

pub nested::list::ListChunkedSeriesTrait::write_cell-returns : goal.nested::list::ListChunkedSeriesTrait::write_cell-returns
nested::list::ListChunkedSeriesTrait::write_cell-returns t c =
    let own = c.self.inside in
    let row = c.args.row in
    let inside = subst (λ (v : ColumnValue). row < length v.slots) (sym c.self.view_is) c.requires.1.1 in
    let lt = row_inside own.rows own.present.items own.ends.items (value_of own.items) c.self.invariant row inside in
    let flag_lt = flag_inside own.rows own.present.items own.ends.items (value_of own.items) c.self.invariant row inside in
    let start = c.start_at-start.ensures ∙ ap (λ es. start_of 0 es row) c.deref.ensures.value in
    let end = c.index-2.ensures ∙ get_or_any own.ends.items row _ 0 lt in
    let flag = sym (c.index.ensures ∙ get_or_any own.present.items row _ false flag_lt) ∙ c.if-not-index.false in
    let items = value_of own.items in
    let before = c.args.to.now.items in
    let word = c.args.null_word.now in
    let slot = present_slot own.rows own.present.items own.ends.items items c.self.invariant row inside flag in
    c.in_ok-write_items.ensures ∙ ap (λ s. before ++ list_text items.dtype (between s c.index-2.result.now items.slots)) start
    ∙ ap (λ e. before ++ list_text items.dtype (between (start_of 0 own.ends.items row) e items.slots)) end
    ∙ ap (λ s. before ++ cell_text word (ListOf items.dtype) s) (sym slot) ∙ ap (λ v. before ++ cell_of word v row) c.self.view_is

pub nested::array::ArrayChunkedSeriesTrait::write_cell-returns : goal.nested::array::ArrayChunkedSeriesTrait::write_cell-returns
nested::array::ArrayChunkedSeriesTrait::write_cell-returns t c =
    let own = c.self.inside in
    let before = c.args.to.now.items in
    let word = c.args.null_word.now in
    let slot = slot_at own.lists.slots c.args.row in
    c.in_ok-write_cell.ensures ∙ ap (λ t. before ++ cell_text word t slot) c.tell_type.ensures
    ∙ ap (λ text. before ++ text) (cell_alike word (part_type own.lists.dtype 0) own.width slot) ∙ ap (λ v. before ++ cell_of word v c.args.row) c.self.view_is

valid : (b : Bool) → not b ≡ true → b ≡ false
valid true e = sym e
valid false e = refl

pub nested::text::write_item-returns : goal.nested::text::write_item-returns
nested::text::write_item-returns t c =
    let items = value_of c.args.items.now in
    let slot = slot_at items.slots c.args.place in
    let before = c.args.to.now.items in
    let text = c.deref.ensures.value ∙ c.in_ok-write_cell.ensures ∙ ap (λ t. t ++ cell_of (codes "null") items c.args.place) c.new-text.ensures.items in
    let is_valid = valid (is_nil slot) (sym c.is_valid.ensures ∙ c.if-not-is_valid.false) in
    let fits = All-get_or (Fits items.dtype) items.slots c.args.place Nil c.requires.inside c.len.ensures.fitting in
    c.in_ok-write_quoted.ensures ∙ ap (λ t. before ++ quoted t) text
    ∙ ap (λ t. before ++ t) (quoted_item items.dtype slot (sym c.requires.quotes ∙ c.if-not-quotes.false) is_valid fits)

pub nested::text::write_items-loop-place-preserved : goal.nested::text::write_items-loop-place-preserved
nested::text::write_items-loop-place-preserved t c =
    let items = value_of c.args.items.now in
    let so_far = c.loop-place.invariant in
    let inside : c.loop-place.place < length items.slots = omega (arith, c.loop-place-test.true, c.requires.inside) in
    record {
      text = text_more items.dtype c.args.start c.loop-place.place items.slots c.args.to.now.items c.loop-place.to.items c.push_comma.new.to.items c.write_item.new.to.items so_far.low inside so_far.text c.in_ok-push_comma.ensures c.in_ok-write_item.ensures;
      low = omega (arith, so_far.low);
      high = omega (arith, c.loop-place-test.true);
    }

pub nested::structs::StructChunkedSeriesTrait::write_cell-index-requires : goal.nested::structs::StructChunkedSeriesTrait::write_cell-index-requires
nested::structs::StructChunkedSeriesTrait::write_cell-index-requires t c =
    let own = c.self.inside in
    let frame = map value_of own.fields.items in
    let inside = subst (λ (v : ColumnValue). c.args.row < length v.slots) (sym c.self.view_is) c.requires.1.1 in
    let lt = flag_inside_struct own.rows own.present.items frame c.self.invariant c.args.row inside in
    omega (arith, lt, own.present.ok.0)

pub nested::structs::StructChunkedSeriesTrait::write_cell-returns-then-not-index : goal.nested::structs::StructChunkedSeriesTrait::write_cell-returns-then-not-index
nested::structs::StructChunkedSeriesTrait::write_cell-returns-then-not-index t c =
    let own = c.self.inside in
    let frame = map value_of own.fields.items in
    let inside = subst (λ (v : ColumnValue). c.args.row < length v.slots) (sym c.self.view_is) c.requires.1.1 in
    let lt = flag_inside_struct own.rows own.present.items frame c.self.invariant c.args.row inside in
    let flag = sym (c.index.ensures ∙ get_or_any own.present.items c.args.row _ false lt) ∙ c.if-not-index.true in
    let before = c.args.to.now.items in
    let word = c.args.null_word.now in
    let slot = absent_struct own.rows own.present.items frame c.self.invariant c.args.row flag in
    c.in_ok-extend_from_slice.ensures.items ∙ ap (λ t. before ++ t) c.as_bytes.ensures.value
    ∙ ap (λ s. before ++ cell_text word (struct_type frame) s) (sym slot) ∙ ap (λ v. before ++ cell_of word v c.args.row) c.self.view_is

pub nested::structs::StructChunkedSeriesTrait::write_cell-write_fields-requires : goal.nested::structs::StructChunkedSeriesTrait::write_cell-write_fields-requires
nested::structs::StructChunkedSeriesTrait::write_cell-write_fields-requires t c =
    let own = c.self.inside in
    let frame = map value_of own.fields.items in
    let inside = subst (λ (v : ColumnValue). c.args.row < length v.slots) (sym c.self.view_is) c.requires.1.1 in
    let lt = flag_inside_struct own.rows own.present.items frame c.self.invariant c.args.row inside in
    (omega (arith, c.requires.1.0, ap (λ v. depth v.dtype) c.self.view_is), rows_below (length own.present.items) c.args.row frame lt c.self.invariant.long)

pub nested::structs::StructChunkedSeriesTrait::write_cell-returns : goal.nested::structs::StructChunkedSeriesTrait::write_cell-returns
nested::structs::StructChunkedSeriesTrait::write_cell-returns t c =
    let own = c.self.inside in
    let frame = map value_of own.fields.items in
    let inside = subst (λ (v : ColumnValue). c.args.row < length v.slots) (sym c.self.view_is) c.requires.1.1 in
    let lt = flag_inside_struct own.rows own.present.items frame c.self.invariant c.args.row inside in
    let flag = sym (c.index.ensures ∙ get_or_any own.present.items c.args.row _ false lt) ∙ c.if-not-index.false in
    let before = c.args.to.now.items in
    let word = c.args.null_word.now in
    let slot = present_struct own.rows own.present.items frame c.self.invariant c.args.row inside flag in
    c.in_ok-write_fields.ensures ∙ ap (λ s. before ++ cell_text word (struct_type frame) s) (sym slot) ∙ ap (λ v. before ++ cell_of word v c.args.row) c.self.view_is

pub nested::text::write_fields-write_item-requires : goal.nested::text::write_fields-write_item-requires
nested::text::write_fields-write_item-requires t c =
    let fields = c.deref-field-items.result.now in
    let at = c.loop-place.place in
    let field = c.field-item.result in
    let same = c.deref-field-items.ensures.value in
    let deep = depth_read value_of fields at field c.loop-place-test.true c.field-item.is in
    let whole = ap (λ (ss : List Series). fields_depth (fields_of (map field_part (map value_of ss)))) same in
    let all = subst (λ (ss : List Series). All (λ f. c.args.row < length f.slots) (map value_of ss)) (sym same) c.requires in
    let inside = all_at value_of (λ f. c.args.row < length f.slots) fields at field c.loop-place-test.true c.field-item.is all in
    (omega (arith, c.decreases, deep, whole), (inside, c.in_ok-has_quotes.ensures))

pub nested::text::write_fields-loop-place-preserved : goal.nested::text::write_fields-loop-place-preserved
nested::text::write_fields-loop-place-preserved t c =
    let fields = c.args.fields.now.items in
    let at = c.loop-place.place in
    let field = c.field-item.result in
    let same = c.deref-field-items.ensures.value in
    let lt = subst (λ (ss : List Series). at < length ss) same c.loop-place-test.true in
    let read = subst (λ (ss : List Series). field ≡ get_or ss at field) same c.field-item.is in
    fields_text value_of fields at field c.args.row c.args.to.now.items c.loop-place.to.items c.push_comma.new.to.items c.write_item.new.to.items lt read
    c.loop-place.invariant c.in_ok-push_comma.ensures c.in_ok-write_item.ensures
