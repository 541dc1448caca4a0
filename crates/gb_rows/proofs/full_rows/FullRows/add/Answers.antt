use Rattle.std.proofs.Common.{◌&&◌, ◌∙◌, ap, arith, not, sym}
use Rattle.gb_rows.specs.Cells.{is_null_cell, still_full}
use Rattle.gb_rows.specs.Zipped.{zipped_one, zipped_past}
use Rattle.gb_rows.proofs.full_rows.FullRows.add.Goals.{then-index, else-index}
use Rattle.gb_rows.proofs.full_rows.FullRows.add.Goals as goal

pub returns-then-self-len : goal.returns-then-self-len
returns-then-self-len c = λ cell e. zipped_past still_full cell c.args.self.now.full.items c.args.self.now.next (omega (arith, c.if-self-len.true, c.len.ensures))

pub returns : goal.returns
returns c = λ cell e.
    zipped_one still_full cell c.args.self.now.full.items c.args.self.now.next c.index.result.now _ (omega (arith, c.if-self-len.false, c.len.ensures))
    (elim c.if-index.branch [
      | then-index w ↦ w.full-is ∙ ap not (sym e) ∙ ap (λ b. b && not (is_null_cell cell)) (sym w.if-index.true ∙ c.index.ensures)
      | else-index w ↦ w.full-is ∙ w.if-index.false ∙ ap (λ b. b && not (is_null_cell cell)) (sym w.if-index.false ∙ c.index.ensures)
    ])
