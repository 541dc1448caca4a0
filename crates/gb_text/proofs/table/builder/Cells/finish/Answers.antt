use Rattle.std.proofs.Common.{◌∙◌, ap}
use Rattle.gb_base.specs.DataType.{ordering_of}
use Rattle.gb_defs.specs.Column.{rechunked}
use Rattle.gb_text.proofs.BuilderLemmas.{categories_rechunked}
use Rattle.gb_text.proofs.table.builder.Cells.finish.Goals as goal

pub returns-in_ok-coded-in-Texts : goal.returns-in_ok-coded-in-Texts
returns-in_ok-coded-in-Texts c =
    let made = rw c.in_ok-coded-in-Texts.ensures.ok at c.from_strings.ensures.ok in
    rw c.in-Texts.is (ap rechunked (c.into_series.ensures ∙ made) ∙ categories_rechunked c.in-Texts.texts.name (ordering_of c.in-Texts.ordering) c.in-Texts.texts.slots)
