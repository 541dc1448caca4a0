use Rattle.std.proofs.Common.{◌≡◌, false, map, take, slice_index_or}
use Rattle.gb_series.proofs.nested.rows.flags_at.Given as goal

abbrev pub invariant-loop-row : goal.invariant-loop-row
invariant-loop-row l = l.flags.items ≡ map (λ row. slice_index_or l.present row false) (take l.row-index l.rows)
