use Rattle.std.proofs.Common.{◌∙◌, ap, sym, not}
use Rattle.std.specs.List.{count_by}
use Rattle.gb_defs.specs.Slot.{is_nil}
use Rattle.gb_series.proofs.RowLemmas.{nulls_counted}
use Rattle.gb_series.proofs.nested.list.ListChunkedSeriesTrait.null_count.Goals as goal

pub returns : goal.returns
returns c =
    c.null_count.ensures ∙ ap (count_by not) c.deref.ensures.value ∙ sym (nulls_counted c.self.inside.present.items _)
    ∙ ap (λ v. count_by is_nil v.slots) c.self.view_is
