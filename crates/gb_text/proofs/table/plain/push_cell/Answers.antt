use Rattle.std.proofs.lemmas.Str.{IsUtf8-from_ascii}
use Rattle.gb_text.proofs.table.plain.push_cell.Goals as goal

pub push_cell-requires-clause-is_text : goal.push_cell-requires-clause-is_text
push_cell-requires-clause-is_text c = λ ascii. IsUtf8-from_ascii _ (c.requires.ascii ascii)

pub returns-then-passes_texts : goal.returns-then-passes_texts
returns-then-passes_texts c = c.pass_text.ensures c.args.null_word.now c.args.cell.now (IsUtf8-from_ascii _ (c.requires.ascii c.if-ascii.true))
