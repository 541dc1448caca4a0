use Rattle.std.proofs.Common.{◌≡◌, ◌++◌, map, Ok}
use Rattle.gb_flat.proofs.shares.all_ok.Given as goal

abbrev pub invariant-loop-value : goal.invariant-loop-value
invariant-loop-value g l = l.initial.value-iterator.rest.items ≡ map (λ x. Ok x) l.all.items ++ l.value-iterator.rest.items
