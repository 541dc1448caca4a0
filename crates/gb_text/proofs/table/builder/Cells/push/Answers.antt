use Rattle.std.proofs.lemmas.Result.{IfOk-weaker}
use Rattle.gb_base.specs.DataType.{ordering_of}
use Rattle.gb_text.proofs.BuilderLemmas.{texts_taken}
use Rattle.gb_text.proofs.table.builder.Cells.push.Goals as goal

pub returns-in-Texts-clause-ok : goal.returns-in-Texts-clause-ok
returns-in-Texts-clause-ok c =
    let typed = rw c.in-Texts.is at c.requires.takes in
    rw c.in-Texts.is (IfOk-weaker c.push_cell-in-Texts.result _ _
    (λ took h. texts_taken (ordering_of c.in-Texts.field-1) c.args.null_word.now c.args.cell.now c.in-Texts.texts c.push_cell-in-Texts.new.self took typed h) c.push_cell-in-Texts.ensures.ok)
