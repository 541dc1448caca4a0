use Rattle.std.proofs.Common.{◌≡◌, All, take, true}
use Rattle.gb_agg.specs.Method.{goes_by_numbers}
use Rattle.gb_frame.specs.declared.agg.Agg.{Agg}
use Rattle.gb_frame.proofs.group_agg.go_by_numbers.Given as goal

abbrev pub invariant-loop-agg : goal.invariant-loop-agg
invariant-loop-agg l = All (λ (agg : Agg). goes_by_numbers agg.method ≡ true) (take l.agg-index l.aggs)
