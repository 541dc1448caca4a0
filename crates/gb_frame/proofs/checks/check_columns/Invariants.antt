use Rattle.std.proofs.Common.{◌≡◌, take, None}
use Rattle.gb_frame.proofs.CauseLemmas.{first_cause}
use Rattle.gb_frame.specs.Grouping.{missing_cause}
use Rattle.gb_frame.proofs.checks.check_columns.Given as goal

abbrev pub invariant-loop-agg : goal.invariant-loop-agg
invariant-loop-agg l = first_cause (missing_cause l.frame) (take l.agg-index l.aggs) ≡ None
