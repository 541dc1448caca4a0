use Rattle.std.proofs.Common.{arith}
use Rattle.gb_paths.proofs.MemberLemmas.{all_members}
use Rattle.gb_agg_tests.proofs.folds.rows_are_folded.Goals as goal

pub over-requires : goal.over-requires
over-requires g c = rw (c.new.ensures, c.new-2.ensures, c.in_ok-column.ensures) (all_members 2)

pub new-requires-6 : goal.new-requires-6
new-requires-6 g c = omega (arith, c.in_ok-column.ensures)

pub over-requires-4 : goal.over-requires-4
over-requires-4 g c = rw (c.new-6.ensures, c.new-7.ensures, c.in_ok-column.ensures) (all_members 2)
