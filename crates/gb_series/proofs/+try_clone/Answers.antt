use Rattle.std.proofs.Common.{◌∙◌, map}
use Rattle.gb_series.specs.Series.{value_of}
use Rattle.gb_series.proofs.StructLemmas.{is_alike, struct_alike}
use Rattle.gb_series.proofs.+try_clone.Goals as goal

pub nested::structs::StructChunkedSeriesTrait::try_clone-invariant_of-result : goal.nested::structs::StructChunkedSeriesTrait::try_clone-invariant_of-result
nested::structs::StructChunkedSeriesTrait::try_clone-invariant_of-result t c =
    let own = c.self.inside in
    let frame = map value_of own.fields.items in
    let flags = c.in_ok-from_slice.ensures.items ∙ c.deref.ensures.value in
    is_alike _ own.rows _ own.present.items _ frame c.in_ok-try_clone.ensures.ok flags c.in_ok-clone_fields.ensures.ok c.self.invariant

pub nested::structs::StructChunkedSeriesTrait::try_clone-returns-clause-ok : goal.nested::structs::StructChunkedSeriesTrait::try_clone-returns-clause-ok
nested::structs::StructChunkedSeriesTrait::try_clone-returns-clause-ok t c =
    let own = c.self.inside in
    let frame = map value_of own.fields.items in
    let flags = c.in_ok-from_slice.ensures.items ∙ c.deref.ensures.value in
    struct_alike _ own.rows _ own.present.items _ frame c.in_ok-try_clone.ensures.ok flags c.in_ok-clone_fields.ensures.ok ∙ c.self.view_is
