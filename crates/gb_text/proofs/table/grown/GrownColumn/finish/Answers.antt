use Rattle.std.proofs.Common.{◌≡◌, ◌∙◌, Some, ap, sym}
use Rattle.gb_defs.specs.Column.{rechunked}
use Rattle.gb_text.specs.Building.{read_if_kept}
use Rattle.gb_text.specs.Grown.{grown_in, kept_codes}
use Rattle.gb_text.proofs.TableLemmas.{read_rechunked}
use Rattle.gb_text.proofs.table.grown.GrownColumn.finish.Goals as goal

pub returns-in_ok-column-in-Coded : goal.returns-in_ok-column-in-Coded
returns-in_ok-column-in-Coded c =
    let codes = c.in-Coded.codes in
    let made = rw c.in_ok-column-in-Coded.ensures.ok at c.finish-in-Coded.ensures.ok in
    let self : c.args.self ≡ kept_codes codes = sym c.self.view_is ∙ ap grown_in c.in-Coded.is in
    ap (λ v. Some v) (ap rechunked (c.into_series.ensures ∙ made) ∙ read_rechunked codes.name codes.dtype codes.slots) ∙ ap read_if_kept (sym self)
