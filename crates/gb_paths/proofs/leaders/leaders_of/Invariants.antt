use Rattle.std.proofs.Common.{◌≡◌, get_or, map, take}
use Rattle.gb_paths.proofs.leaders.leaders_of.Given as goal

abbrev pub invariant-loop-place : goal.invariant-loop-place
invariant-loop-place l = l.leaders.items ≡ map (λ number. get_or l.numbers.first.items number 0) (take l.place l.numbers.of_rows.items)
