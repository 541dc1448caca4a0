use Rattle.std.proofs.Common.{sym, arith}
use Rattle.std.proofs.lemmas.List.FromFn.{get_or-range_with_len, length-range_with_len}
use Rattle.gb_agg.proofs.group_rows.RowRunGroupRows.row_at.Goals as goal

pub overflow_add-result : goal.overflow_add-result
overflow_add-result c =
    let run = c.args.self.now in
    omega (arith, c.requires, length-range_with_len run.start run.count)

pub returns : goal.returns
returns c =
    let run = c.args.self.now in
    sym (get_or-range_with_len run.start run.count c.args.place 0 (omega (arith, c.requires, length-range_with_len run.start run.count)))
