use Rattle.std.proofs.Common.{arith}
use Rattle.gb_paths.proofs.MemberLemmas.{few_members}
use Rattle.gb_agg.proofs.number_fold.RowCountNumberFold.over.Goals as goal

pub overflow_cast-result : goal.overflow_cast-result
overflow_cast-result g c = omega (arith, few_members _ _ c.requires)
