use Rattle.std.proofs.Common.{◌∙◌, ap, sym, length, ◌++◌, ◌∷◌, []}
use Rattle.std.specs.List.{count_by, sum}
use Rattle.gb_defs.specs.Slot.{is_nil}
use Rattle.gb_base.specs.PlSmallStr.{name_of}
use Rattle.gb_cols.proofs.NullLemmas.{null_length, null_slots_count}
use Rattle.gb_cols.proofs.null.NullChunkedSeriesTrait.null_count.Goals as goal

pub returns : goal.returns
returns c =
    let chunks = c.self.inside.earlier.items ++ c.self.inside.last ∷ [] in
    c.len.ensures.value ∙ ap (λ v. length v.slots) (sym c.self.view_is) ∙ null_length (name_of c.self.inside.name) chunks ∙ sym (null_slots_count (sum chunks))
    ∙ ap (λ v. count_by is_nil v.slots) c.self.view_is
