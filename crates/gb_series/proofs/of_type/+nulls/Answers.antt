use Rattle.std.proofs.Common.{◌∙◌, List, ap, arith, map, subst, sym}
use Rattle.std.specs.List.{All}
use Rattle.std.proofs.lemmas.List.{take_all}
use Rattle.std.proofs.lemmas.List.Elements.{All-get_or}
use Rattle.gb_base.proofs.DataTypeLemmas.{struct_type}
use Rattle.gb_base.specs.DataType.{fields_of, part_of, type_of}
use Rattle.gb_base.specs.declared.data_type.DataType.{DataType}
use Rattle.gb_base.specs.declared.field.Field.{Field}
use Rattle.gb_series.specs.Depth.{depth, fields_depth}
use Rattle.gb_series.specs.Nulls.{HasNulls, empty_part}
use Rattle.gb_series.specs.Series.{value_of}
use Rattle.gb_series.proofs.ColumnLemmas.{nulls_in_structs, part_depth, parts_sound, parts_typed}
use Rattle.gb_series.proofs.of_type.+nulls.Goals as goal

pub empty_parts-returns-clause-sound : goal.empty_parts-returns-clause-sound
empty_parts-returns-clause-sound t c =
    let made = map value_of c.loop-field.made.items in
    let fields = c.args.fields.now.items in
    let is = c.loop-field.invariant ∙ ap (map empty_part) (take_all c.loop-field.field-index c.deref-field-items.result.now c.loop-field-test.false ∙ c.deref-field-items.ensures.value) in
    parts_sound made fields is c.requires

pub empty_parts-returns-clause-typed : goal.empty_parts-returns-clause-typed
empty_parts-returns-clause-typed t c =
    let made = map value_of c.loop-field.made.items in
    let fields = c.args.fields.now.items in
    let is = c.loop-field.invariant ∙ ap (map empty_part) (take_all c.loop-field.field-index c.deref-field-items.result.now c.loop-field-test.false ∙ c.deref-field-items.ensures.value) in
    parts_typed made fields is

pub nulls_of-empty_parts-requires : goal.nulls_of-empty_parts-requires
nulls_of-empty_parts-requires t c =
    let fields = c.in-Struct.fields in
    let typed = ap type_of c.in-Struct.is ∙ struct_type fields in
    (omega (arith, c.decreases, ap depth typed), nulls_in_structs fields (subst (λ (d : DataType). HasNulls d) c.in-Struct.is c.requires.column))

pub empty_parts-nulls_of-requires : goal.empty_parts-nulls_of-requires
empty_parts-nulls_of-requires t c =
    let fields = c.deref-field-items.result.now in
    let at = c.loop-field.field-index in
    let field = c.field-item.result in
    let deep = part_depth fields at field c.loop-field-test.true c.field-item.is in
    let same = ap (λ (fs : List Field). fields_depth (fields_of (map part_of fs))) c.deref-field-items.ensures.value in
    let all = subst (λ (fs : List Field). All (λ f. HasNulls f.dtype) fs) (sym c.deref-field-items.ensures.value) c.requires.nulls in
    let has = subst (λ (f : Field). HasNulls f.dtype) (sym c.field-item.is) (All-get_or (λ (f : Field). HasNulls f.dtype) fields at field c.loop-field-test.true all) in
    (omega (arith, c.decreases, deep, same), (has, omega arith))
