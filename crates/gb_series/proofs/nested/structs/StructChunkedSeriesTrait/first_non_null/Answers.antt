use Rattle.std.proofs.Common.{◌∙◌, ap, sym}
use Rattle.std.specs.List.{position}
use Rattle.gb_defs.specs.Column.{is_valid}
use Rattle.gb_series.proofs.RowLemmas.{first_valid}
use Rattle.gb_series.proofs.nested.structs.StructChunkedSeriesTrait.first_non_null.Goals as goal

pub returns : goal.returns
returns c =
    c.first_present.ensures ∙ ap (position (λ present. present)) c.deref.ensures.value ∙ sym (first_valid c.self.inside.present.items _)
    ∙ ap (λ v. position is_valid v.slots) c.self.view_is
