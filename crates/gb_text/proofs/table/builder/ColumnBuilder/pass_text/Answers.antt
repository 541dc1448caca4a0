use Rattle.std.proofs.Common.{◌∙◌, ap, sym}
use Rattle.gb_text.specs.Builder.{built}
use Rattle.gb_text.proofs.BuilderLemmas.{cell_checked, text_read}
use Rattle.gb_text.proofs.table.builder.ColumnBuilder.pass_text.Goals as goal

pub returns : goal.returns
returns c null_word cell utf8 =
    let now = sym c.self.view_is ∙ ap (built c.self.inside.cells) c.in-Some.is in
    let passes = rw now at c.requires.passes in
    rw now (cell_checked null_word cell c.self.inside.cells c.in-Some.count (text_read null_word cell _ utf8 passes.texts))
