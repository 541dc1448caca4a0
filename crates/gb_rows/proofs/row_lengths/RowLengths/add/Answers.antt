use Rattle.std.proofs.Common.{arith}
use Rattle.gb_rows.specs.Cells.{longer}
use Rattle.gb_rows.specs.Zipped.{zipped_one, zipped_past}
use Rattle.gb_rows.proofs.row_lengths.RowLengths.add.Goals as goal

pub returns-then-self-len : goal.returns-then-self-len
returns-then-self-len c = λ cell e. zipped_past longer cell c.args.self.now.lengths.items c.args.self.now.next (omega (arith, c.if-self-len.true, c.len.ensures))

pub returns : goal.returns
returns c = λ cell e. zipped_one longer cell c.args.self.now.lengths.items c.args.self.now.next c.index.result.now _ (omega (arith, c.if-self-len.false, c.len.ensures)) (omega (arith, c.in_ok-length.ensures, c.index.ensures, e))
