use Rattle.std.proofs.Common.{◌≡◌, get_or, map, take}
use Rattle.gb_paths.proofs.gathered_rows.rows_at.Given as goal

abbrev pub invariant-loop-place : goal.invariant-loop-place
invariant-loop-place g l = l.rows.items ≡ map (λ place. get_or (g.M.Members.listed l.members) place 0) (take l.place-index l.places)
