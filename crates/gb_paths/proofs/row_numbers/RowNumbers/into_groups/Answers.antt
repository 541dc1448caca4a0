use Rattle.std.proofs.Common.{ap, arith, length}
use Rattle.std.proofs.lemmas.List.FromFn.{length-range_with_len}
use Rattle.gb_paths.proofs.MemberLemmas.{as_many}
use Rattle.gb_paths.proofs.row_numbers.RowNumbers.into_groups.Goals as goal

pub row_lists-requires-clause-each : goal.row_lists-requires-clause-each
row_lists-requires-clause-each c =
    let long = length-range_with_len 0 c.new-rows.result.count in
    let given = ap length c.deref.ensures.value in
    omega (arith, long, given, c.new-rows.ensures)

pub new-requires-clause-as_many : goal.new-requires-clause-as_many
new-requires-clause-as_many c =
    let many = as_many _ _ _ c.in_ok-all.all.items c.in_ok-all.ensures in
    omega (arith, many)
