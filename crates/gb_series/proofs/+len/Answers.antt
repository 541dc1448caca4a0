use Rattle.std.proofs.Common.{◌∙◌, ap, sym, length, subst, List, map, take}
use Rattle.std.specs.List.{All, sum}
use Rattle.gb_defs.specs.Column.{ColumnValue}
use Rattle.gb_defs.specs.ColumnType.{Fits}
use Rattle.gb_series.specs.Series.{value_of}
use Rattle.gb_series.proofs.ListLemmas.{list_length, lists_fit}
use Rattle.gb_series.proofs.ArrayLemmas.{arrays_fit}
use Rattle.std.proofs.lemmas.List.{take_all}
use Rattle.gb_series.specs.declared.series.Series.{Series}
use Rattle.gb_series.specs.Structs.{FitsOwn}
use Rattle.gb_series.proofs.FieldLemmas.{all_more}
use Rattle.gb_series.proofs.StructLemmas.{struct_length, structs_fit}
use Rattle.gb_series.proofs.+len.Goals as goal

pub nested::list::ListChunkedSeriesTrait::len-returns-clause-value : goal.nested::list::ListChunkedSeriesTrait::len-returns-clause-value
nested::list::ListChunkedSeriesTrait::len-returns-clause-value t c =
    let in_self = c.self.inside in
    c.len-2.ensures.value ∙ sym (list_length in_self.rows in_self.present.items in_self.ends.items (value_of in_self.items) c.self.invariant)
    ∙ ap (λ v. length v.slots) c.self.view_is

pub nested::list::ListChunkedSeriesTrait::len-returns-clause-chunks : goal.nested::list::ListChunkedSeriesTrait::len-returns-clause-chunks
nested::list::ListChunkedSeriesTrait::len-returns-clause-chunks t c =
    let in_self = c.self.inside in
    ap (λ v. sum v.chunks) (sym c.self.view_is) ∙ c.len-2.ensures.chunks
    ∙ sym (list_length in_self.rows in_self.present.items in_self.ends.items (value_of in_self.items) c.self.invariant)
    ∙ ap (λ v. length v.slots) c.self.view_is

pub nested::list::ListChunkedSeriesTrait::len-returns-clause-fitting : goal.nested::list::ListChunkedSeriesTrait::len-returns-clause-fitting
nested::list::ListChunkedSeriesTrait::len-returns-clause-fitting t c =
    let in_self = c.self.inside in
    subst (λ (v : ColumnValue). All (Fits v.dtype) v.slots) c.self.view_is
    (lists_fit in_self.rows in_self.present.items in_self.ends.items (value_of in_self.items) c.len.ensures.fitting)

pub nested::array::ArrayChunkedSeriesTrait::len-returns-clause-fitting : goal.nested::array::ArrayChunkedSeriesTrait::len-returns-clause-fitting
nested::array::ArrayChunkedSeriesTrait::len-returns-clause-fitting t c =
    let own = c.self.inside in
    subst (λ (v : ColumnValue). All (Fits v.dtype) v.slots) c.self.view_is
    (arrays_fit own.lists own.width c.tell_type.ensures c.self.invariant c.len.ensures.fitting)

pub nested::structs::StructChunkedSeriesTrait::len-returns-clause-value : goal.nested::structs::StructChunkedSeriesTrait::len-returns-clause-value
nested::structs::StructChunkedSeriesTrait::len-returns-clause-value t c =
    let own = c.self.inside in
    let frame = map value_of own.fields.items in
    c.len.ensures.value ∙ sym (struct_length own.rows own.present.items frame c.self.invariant) ∙ ap (λ v. length v.slots) c.self.view_is

pub nested::structs::StructChunkedSeriesTrait::len-returns-clause-chunks : goal.nested::structs::StructChunkedSeriesTrait::len-returns-clause-chunks
nested::structs::StructChunkedSeriesTrait::len-returns-clause-chunks t c =
    let own = c.self.inside in
    let frame = map value_of own.fields.items in
    ap (λ v. sum v.chunks) (sym c.self.view_is) ∙ c.len.ensures.chunks ∙ sym (struct_length own.rows own.present.items frame c.self.invariant)
    ∙ ap (λ v. length v.slots) c.self.view_is

pub nested::structs::StructChunkedSeriesTrait::len-returns-clause-fitting : goal.nested::structs::StructChunkedSeriesTrait::len-returns-clause-fitting
nested::structs::StructChunkedSeriesTrait::len-returns-clause-fitting t c =
    let own = c.self.inside in
    let frame = map value_of own.fields.items in
    subst (λ (v : ColumnValue). All (Fits v.dtype) v.slots) c.self.view_is (structs_fit own.rows own.present.items frame c.tell_fitting.ensures)

pub nested::fields::tell_fitting-loop-field-preserved : goal.nested::fields::tell_fitting-loop-field-preserved
nested::fields::tell_fitting-loop-field-preserved t c =
    all_more value_of FitsOwn c.deref-field-items.result.now c.loop-field.field-index c.field-item.result c.loop-field-test.true c.field-item.is c.loop-field.invariant c.len.ensures.fitting

pub nested::fields::tell_fitting-returns : goal.nested::fields::tell_fitting-returns
nested::fields::tell_fitting-returns t c =
    subst (λ (xs : List Series). All FitsOwn (map value_of xs)) (take_all c.loop-field.field-index c.deref-field-items.result.now c.loop-field-test.false ∙ c.deref-field-items.ensures.value) c.loop-field.invariant
