use Rattle.std.proofs.Common.{◌≡◌, ◌-◌, map, take}
use Rattle.gb_series.proofs.nested.rows.ends_behind.Given as goal

abbrev pub invariant-loop-end : goal.invariant-loop-end
invariant-loop-end l = l.moved.items ≡ map (λ end. end - l.by) (take l.end-index l.ends)
