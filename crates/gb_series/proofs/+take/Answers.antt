use Rattle.std.proofs.Common.{rules, ◌∙◌, ◌<◌, Bool, List, ℕ, ap, false, get_or, length, map, subst, sym, arith}
use Rattle.std.specs.List.{All}
use Rattle.gb_defs.specs.Column.{ColumnValue, taken}
use Rattle.gb_series.specs.Series.{value_of}
use Rattle.gb_series.specs.Rows.{AreItems}
use Rattle.gb_series.proofs.ListLemmas.{places_inside, rows_are_rows, rows_have_ends, rows_have_flags, taken_listed, taken_view}
use Rattle.gb_defs.specs.Slot.{Slot}
use Rattle.gb_series.specs.Arrays.{HasWidth}
use Rattle.gb_series.proofs.ArrayLemmas.{array_taken}
use Rattle.gb_series.proofs.FieldLemmas.{all_at, depth_at}
use Rattle.gb_series.proofs.StructLemmas.{is_alike, is_taken, rows_are_rows as struct_rows, rows_have_flags as struct_flags, rows_in_fields, struct_alike, struct_taken}
use Rattle.gb_series.specs.declared.series.Series.{Series}
use Rattle.gb_series.specs.Structs.{HasRows, field_part}
use Rattle.gb_base.specs.DataType.{fields_of}
use Rattle.gb_series.specs.Depth.{depth, fields_depth}
use Rattle.std.proofs.lemmas.List.{get_or-map, length-map}
use Rattle.gb_series.proofs.+take.Goals as goal

pub nested::list::ListChunkedSeriesTrait::take-items_of_rows-requires : goal.nested::list::ListChunkedSeriesTrait::take-items_of_rows-requires
nested::list::ListChunkedSeriesTrait::take-items_of_rows-requires t c =
    let own = c.self.inside in
    let rows = c.args.rows.now in
    let inside = subst (λ (v : ColumnValue). All (λ row. row < length v.slots) rows) (sym c.self.view_is) c.requires in
    subst (λ (es : List ℕ). All (λ row. row < length es) rows) (sym c.deref.ensures.value)
    (rows_have_ends own.rows own.present.items own.ends.items (value_of own.items) c.self.invariant rows inside)

pub nested::list::ListChunkedSeriesTrait::take-take-requires : goal.nested::list::ListChunkedSeriesTrait::take-take-requires
nested::list::ListChunkedSeriesTrait::take-take-requires t c =
    let own = c.self.inside in
    let rows = c.args.rows.now in
    let inside = subst (λ (v : ColumnValue). All (λ row. row < length v.slots) rows) (sym c.self.view_is) c.requires in
    rows_are_rows own.rows own.present.items own.ends.items (value_of own.items) c.self.invariant rows inside

pub nested::list::ListChunkedSeriesTrait::take-flags_at-requires : goal.nested::list::ListChunkedSeriesTrait::take-flags_at-requires
nested::list::ListChunkedSeriesTrait::take-flags_at-requires t c =
    let own = c.self.inside in
    let rows = c.args.rows.now in
    let inside = subst (λ (v : ColumnValue). All (λ row. row < length v.slots) rows) (sym c.self.view_is) c.requires in
    subst (λ (ps : List Bool). All (λ row. row < length ps) rows) (sym c.deref-2.ensures.value)
    (rows_have_flags own.rows own.present.items own.ends.items (value_of own.items) c.self.invariant rows inside)

pub nested::list::ListChunkedSeriesTrait::take-take-requires-2 : goal.nested::list::ListChunkedSeriesTrait::take-take-requires-2
nested::list::ListChunkedSeriesTrait::take-take-requires-2 t c =
    let own = c.self.inside in
    let rows = c.args.rows.now in
    let inside = subst (λ (v : ColumnValue). All (λ row. row < length v.slots) rows) (sym c.self.view_is) c.requires in
    let are = subst (λ (es : List ℕ). AreItems es rows c.in_ok-ends.ends.items c.in_ok-ends.places.items) c.deref.ensures.value c.in_ok-ends.ensures.ok in (
      omega (arith, c.decreases, ap (λ v. depth v.dtype) c.self.view_is),
      subst (λ (ps : List ℕ). All (λ place. place < length (value_of own.items).slots) ps) (sym c.deref-3.ensures.value)
          (places_inside own.rows own.present.items own.ends.items (value_of own.items) c.self.invariant rows c.in_ok-ends.ends.items c.in_ok-ends.places.items are inside),
    )

pub nested::list::ListChunkedSeriesTrait::take-invariant_of-result : goal.nested::list::ListChunkedSeriesTrait::take-invariant_of-result
nested::list::ListChunkedSeriesTrait::take-invariant_of-result t c =
    let own = c.self.inside in
    let rows = c.args.rows.now in
    let inside = subst (λ (v : ColumnValue). All (λ row. row < length v.slots) rows) (sym c.self.view_is) c.requires in
    let are = subst (λ (es : List ℕ). AreItems es rows c.in_ok-ends.ends.items c.in_ok-ends.places.items) c.deref.ensures.value c.in_ok-ends.ensures.ok in
    let flags = c.in_ok-flags_at.ensures ∙ ap (λ ps. map (λ row. get_or ps row false) rows) c.deref-2.ensures.value in
    let items = c.in_ok-take-2.ensures.ok ∙ ap (λ ps. taken ps (value_of own.items)) c.deref-3.ensures.value in
    taken_listed own.rows own.present.items own.ends.items (value_of own.items) c.self.invariant rows c.in_ok-ends.ends.items c.in_ok-ends.places.items are inside _ _ _ c.in_ok-take.ensures.ok flags items

pub nested::list::ListChunkedSeriesTrait::take-returns-clause-ok : goal.nested::list::ListChunkedSeriesTrait::take-returns-clause-ok
nested::list::ListChunkedSeriesTrait::take-returns-clause-ok t c =
    let own = c.self.inside in
    let rows = c.args.rows.now in
    let inside = subst (λ (v : ColumnValue). All (λ row. row < length v.slots) rows) (sym c.self.view_is) c.requires in
    let are = subst (λ (es : List ℕ). AreItems es rows c.in_ok-ends.ends.items c.in_ok-ends.places.items) c.deref.ensures.value c.in_ok-ends.ensures.ok in
    let flags = c.in_ok-flags_at.ensures ∙ ap (λ ps. map (λ row. get_or ps row false) rows) c.deref-2.ensures.value in
    let items = c.in_ok-take-2.ensures.ok ∙ ap (λ ps. taken ps (value_of own.items)) c.deref-3.ensures.value in
    taken_view own.rows own.present.items own.ends.items (value_of own.items) c.self.invariant rows c.in_ok-ends.ends.items c.in_ok-ends.places.items are inside _ _ _ c.in_ok-take.ensures.ok flags items
    ∙ ap (taken rows) c.self.view_is

pub nested::array::ArrayChunkedSeriesTrait::take-take-requires : goal.nested::array::ArrayChunkedSeriesTrait::take-take-requires
nested::array::ArrayChunkedSeriesTrait::take-take-requires t c =
    let inside = subst (λ (v : ColumnValue). All (λ row. row < length v.slots) c.args.rows.now) (sym c.self.view_is) c.requires in
    (omega (arith, c.decreases, ap (λ v. depth v.dtype) c.self.view_is, ap depth c.self.invariant.lists_are), inside)

pub nested::array::ArrayChunkedSeriesTrait::take-invariant_of-result : goal.nested::array::ArrayChunkedSeriesTrait::take-invariant_of-result
nested::array::ArrayChunkedSeriesTrait::take-invariant_of-result t c =
    let own = c.self.inside in
    array_taken own.width own.lists c.args.rows.now _ c.self.invariant c.in_ok-take.ensures.ok

pub nested::structs::StructChunkedSeriesTrait::take-take-requires : goal.nested::structs::StructChunkedSeriesTrait::take-take-requires
nested::structs::StructChunkedSeriesTrait::take-take-requires t c =
    let own = c.self.inside in
    let frame = map value_of own.fields.items in
    let rows = c.args.rows.now in
    let inside = subst (λ (v : ColumnValue). All (λ row. row < length v.slots) rows) (sym c.self.view_is) c.requires in
    struct_rows own.rows own.present.items frame c.self.invariant rows inside

pub nested::structs::StructChunkedSeriesTrait::take-flags_at-requires : goal.nested::structs::StructChunkedSeriesTrait::take-flags_at-requires
nested::structs::StructChunkedSeriesTrait::take-flags_at-requires t c =
    let own = c.self.inside in
    let frame = map value_of own.fields.items in
    let rows = c.args.rows.now in
    let inside = subst (λ (v : ColumnValue). All (λ row. row < length v.slots) rows) (sym c.self.view_is) c.requires in
    subst (λ (ps : List Bool). All (λ row. row < length ps) rows) (sym c.deref.ensures.value) (struct_flags own.rows own.present.items frame c.self.invariant rows inside)

pub nested::structs::StructChunkedSeriesTrait::take-take_fields-requires : goal.nested::structs::StructChunkedSeriesTrait::take-take_fields-requires
nested::structs::StructChunkedSeriesTrait::take-take_fields-requires t c =
    let own = c.self.inside in
    let frame = map value_of own.fields.items in
    let rows = c.args.rows.now in
    let inside = subst (λ (v : ColumnValue). All (λ row. row < length v.slots) rows) (sym c.self.view_is) c.requires in
    (omega (arith, c.decreases, ap (λ v. depth v.dtype) c.self.view_is), rows_in_fields own.rows own.present.items frame c.self.invariant rows inside)

pub nested::structs::StructChunkedSeriesTrait::take-invariant_of-result : goal.nested::structs::StructChunkedSeriesTrait::take-invariant_of-result
nested::structs::StructChunkedSeriesTrait::take-invariant_of-result t c =
    let own = c.self.inside in
    let frame = map value_of own.fields.items in
    let rows = c.args.rows.now in
    let inside = subst (λ (v : ColumnValue). All (λ row. row < length v.slots) rows) (sym c.self.view_is) c.requires in
    let flags = c.in_ok-flags_at.ensures ∙ ap (λ ps. map (λ row. get_or ps row false) rows) c.deref.ensures.value in
    let picked = map (λ row. get_or own.present.items row false) rows in
    is_alike _ (taken rows own.rows) _ picked _ (map (taken rows) frame) c.in_ok-take.ensures.ok flags c.in_ok-take_fields.ensures.ok (is_taken own.rows own.present.items frame c.self.invariant rows inside)

pub nested::structs::StructChunkedSeriesTrait::take-returns-clause-ok : goal.nested::structs::StructChunkedSeriesTrait::take-returns-clause-ok
nested::structs::StructChunkedSeriesTrait::take-returns-clause-ok t c =
    let own = c.self.inside in
    let frame = map value_of own.fields.items in
    let rows = c.args.rows.now in
    let inside = subst (λ (v : ColumnValue). All (λ row. row < length v.slots) rows) (sym c.self.view_is) c.requires in
    let flags = c.in_ok-flags_at.ensures ∙ ap (λ ps. map (λ row. get_or ps row false) rows) c.deref.ensures.value in
    let picked = map (λ row. get_or own.present.items row false) rows in
    struct_alike _ (taken rows own.rows) _ picked _ (map (taken rows) frame) c.in_ok-take.ensures.ok flags c.in_ok-take_fields.ensures.ok
    ∙ struct_taken own.rows own.present.items frame c.self.invariant rows inside ∙ ap (taken rows) c.self.view_is

pub nested::fields::take_fields-take-requires : goal.nested::fields::take_fields-take-requires
nested::fields::take_fields-take-requires t c =
    let items = c.deref-field-items.result.now in
    let rows = c.args.rows.now in
    let all = subst (λ (xs : List Series). All (HasRows rows) (map value_of xs)) (sym c.deref-field-items.ensures.value) c.requires in
    let at = c.loop-field.field-index in
    let own = c.args.fields.now.items in
    let within : at < length (map value_of items) = omega (arith, c.loop-field-test.true, length-map items value_of) in
    let deep = depth_at (map value_of items) at (value_of c.field-item.result) within in
    let read = get_or-map value_of items at c.field-item.result (value_of c.field-item.result) c.loop-field-test.true ∙ ap value_of (sym c.field-item.is) in
    let same = ap (λ (xs : List Series). fields_depth (fields_of (map field_part (map value_of xs)))) c.deref-field-items.ensures.value in
    (omega (arith, c.decreases, deep, same, ap (λ (v : ColumnValue). depth v.dtype) read), all_at value_of (HasRows rows) items at c.field-item.result c.loop-field-test.true c.field-item.is all)
