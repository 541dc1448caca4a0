use Rattle.std.proofs.Common.{◌≡◌, replicate}
use Rattle.gb_agg.proofs.row_fold.repeated.Given as goal

abbrev pub invariant-loop : goal.invariant-loop
invariant-loop g l = l.states.items ≡ replicate l.counter l.state
