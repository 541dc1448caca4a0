use Rattle.std.proofs.Common.{◌∙◌, ap, map}
use Rattle.gb_defs.specs.Column.{rechunked}
use Rattle.gb_series.specs.Series.{value_of}
use Rattle.gb_series.proofs.ListLemmas.{list_alike, list_rechunked}
use Rattle.gb_series.proofs.StructLemmas.{is_alike, is_rechunked, struct_alike, struct_rechunked}
use Rattle.gb_series.proofs.+rechunk.Goals as goal

pub nested::list::ListChunkedSeriesTrait::rechunk-returns-clause-ok : goal.nested::list::ListChunkedSeriesTrait::rechunk-returns-clause-ok
nested::list::ListChunkedSeriesTrait::rechunk-returns-clause-ok t c =
    let in_self = c.self.inside in
    list_alike _ _ _ _ _ _ _ _ c.in_ok-rechunk.ensures.ok (c.in_ok-from_slice.ensures.items ∙ c.deref.ensures.value) (c.in_ok-from_slice-2.ensures.items ∙ c.deref-2.ensures.value) c.in_ok-rechunk-2.ensures.ok
    ∙ list_rechunked in_self.rows in_self.present.items in_self.ends.items (value_of in_self.items) c.self.invariant ∙ ap rechunked c.self.view_is

pub nested::structs::StructChunkedSeriesTrait::rechunk-invariant_of-result : goal.nested::structs::StructChunkedSeriesTrait::rechunk-invariant_of-result
nested::structs::StructChunkedSeriesTrait::rechunk-invariant_of-result t c =
    let own = c.self.inside in
    let frame = map value_of own.fields.items in
    let flags = c.in_ok-from_slice.ensures.items ∙ c.deref.ensures.value in
    is_alike _ (rechunked own.rows) _ own.present.items _ (map rechunked frame) c.in_ok-rechunk.ensures.ok flags c.in_ok-rechunk_fields.ensures.ok (is_rechunked own.rows own.present.items frame c.self.invariant)

pub nested::structs::StructChunkedSeriesTrait::rechunk-returns-clause-ok : goal.nested::structs::StructChunkedSeriesTrait::rechunk-returns-clause-ok
nested::structs::StructChunkedSeriesTrait::rechunk-returns-clause-ok t c =
    let own = c.self.inside in
    let frame = map value_of own.fields.items in
    let flags = c.in_ok-from_slice.ensures.items ∙ c.deref.ensures.value in
    struct_alike _ (rechunked own.rows) _ own.present.items _ (map rechunked frame) c.in_ok-rechunk.ensures.ok flags c.in_ok-rechunk_fields.ensures.ok
    ∙ struct_rechunked own.rows own.present.items frame c.self.invariant ∙ ap rechunked c.self.view_is
