use Rattle.std.proofs.Common.{arith}
use Rattle.gb_paths.proofs.MemberLemmas.{members_more}
use Rattle.gb_agg_tests.proofs.folds.runs_are_folded.Goals as goal

pub makes-requires : goal.makes-requires
makes-requires g c = rw (c.new.ensures, c.in_ok-column.ensures) c.in_ok-groups.ensures

pub makes-requires-2 : goal.makes-requires-2
makes-requires-2 g c = λ k d lt. members_more _ _ _ (omega arith) (c.in_ok-groups.ensures k d lt)

pub makes-requires-3 : goal.makes-requires-3
makes-requires-3 g c = rw (c.new-2.ensures, c.in_ok-column.ensures) c.in_ok-groups.ensures
