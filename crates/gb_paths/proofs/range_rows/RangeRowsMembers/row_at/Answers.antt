use Rattle.std.proofs.Common.{arith, sym}
use Rattle.std.proofs.lemmas.List.FromFn.{get_or-range_with_len, length-range_with_len}
use Rattle.gb_paths.proofs.range_rows.RangeRowsMembers.row_at.Goals as goal

pub overflow_add-result : goal.overflow_add-result
overflow_add-result c = let s = c.args.self.now in omega (arith, s.few, c.requires, length-range_with_len s.start s.count)

pub overflow_cast-result : goal.overflow_cast-result
overflow_cast-result c = let s = c.args.self.now in omega (arith, s.few, c.requires, length-range_with_len s.start s.count)

pub returns : goal.returns
returns c =
    let s = c.args.self.now in
    sym (get_or-range_with_len s.start s.count c.args.place 0 (omega (arith, c.requires, length-range_with_len s.start s.count)))
