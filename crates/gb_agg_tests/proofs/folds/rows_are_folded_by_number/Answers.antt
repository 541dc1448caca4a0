use Rattle.gb_paths.proofs.MemberLemmas.{all_members}
use Rattle.gb_agg_tests.proofs.folds.rows_are_folded_by_number.Goals as goal

pub fold_numbered-requires-clause-inside : goal.fold_numbered-requires-clause-inside
fold_numbered-requires-clause-inside g c = rw (c.new-rows.ensures, c.in_ok-column.ensures) (all_members 2).below
