use Rattle.std.proofs.Common.{◌∙◌, ap}
use Rattle.std.specs.Prelude.{is_some}
use Rattle.gb_base.specs.DataType.{ordering_of}
use Rattle.gb_defs.specs.Cell.{cell_slot}
use Rattle.gb_text.proofs.BuilderLemmas.{read_alike}
use Rattle.gb_text.proofs.table.builder.Cells.read.Goals as goal

pub returns-in-Texts : goal.returns-in-Texts
returns-in-Texts c =
    let typed = rw c.in-Texts.is at c.requires.takes in
    rw c.in-Texts.is (c.reads_cell-in-Texts.ensures ∙ ap (λ t. is_some (cell_slot c.args.null_word.now t c.args.cell.now)) typed
    ∙ ap is_some (read_alike (ordering_of c.in-Texts.field-1) c.args.null_word.now c.args.cell.now))
