use Rattle.std.proofs.Common.{arith, take_all}
use Rattle.std.proofs.lemmas.Result.{on_ok_weaker}
use Rattle.gb_text.proofs.text.put_row.Goals as goal

pub returns : goal.returns
returns c =
    let all = take_all c.loop-column.column-index c.args.columns.now (omega arith) in
    on_ok_weaker c.end_row.result (λ ends before begun. ends before _ (rw all at (c.loop-column.invariant before begun))) c.end_row.ensures
