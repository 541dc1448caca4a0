use Rattle.std.proofs.Common.{◌≡◌, ◌++◌, get_or, map, take}
use Rattle.gb_paths.proofs.number_rows.push_numbers.Given as goal

abbrev pub invariant-loop-place : goal.invariant-loop-place
invariant-loop-place l = l.all.items ≡ l.fn.all.items ++ map (λ place. get_or l.numbers place 0) (take l.place-index l.places)
