use Rattle.std.proofs.Common.{arith, is_some, map, refl, IfOk, ap, subst, sym, ◌∙◌}
use Rattle.std.specs.List.{list_any}
use Rattle.gb_base.specs.DataType.{fields_of, part_of, type_of}
use Rattle.gb_base.proofs.DataTypeLemmas.{struct_type}
use Rattle.gb_defs.specs.ColumnType.{ColumnType, StructOf}
use Rattle.gb_rows.specs.Context.{IsContextOf}
use Rattle.gb_rows.proofs.ContextLemmas.{field_more, fields_done}
use Rattle.gb_rows.proofs.context.+context.Goals as goal

pub get_row_encoding_context-returns-in-Struct-clause-ok : goal.get_row_encoding_context-returns-in-Struct-clause-ok
get_row_encoding_context-returns-in-Struct-clause-ok t c =
    let same = ap (λ (l : _). StructOf (fields_of (map part_of l))) c.deref-in-Struct.ensures.value ∙ sym (ap type_of c.in-Struct.is ∙ struct_type c.in-Struct.fields) in
    subst (λ (t : ColumnType). IfOk c.struct_context.result (IsContextOf t)) same c.struct_context.ensures.ok

pub struct_context-loop-field-preserved : goal.struct_context-loop-field-preserved
struct_context-loop-field-preserved t c =
    field_more c.args.fields.now c.loop-field.field-index c.field-item.result c.loop-field.contexts.items c.push.new.self.items _ (omega (arith, c.loop-field-test.true, c.loop-field.auto.field-index-end)) c.field-item.is c.loop-field.invariant c.in_ok-get_row_encoding_context.ensures.ok c.in_ok-push.ensures.items

pub struct_context-returns-then-has_one-clause-ok : goal.struct_context-returns-then-has_one-clause-ok
struct_context-returns-then-has_one-clause-ok t c =
    let made = c.loop-field.contexts in
    let all = fields_done c.args.fields.now c.loop-field.field-index made.items (omega (arith, c.loop-field-test.false, c.loop-field.auto.field-index-end)) c.loop-field.invariant in
    (made.items, (all, (ap (list_any is_some) (sym c.deref.ensures.value) ∙ sym c.has_one.ensures ∙ c.if-has_one.true, (made, refl, refl))))
