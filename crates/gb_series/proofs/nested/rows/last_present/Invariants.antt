use Rattle.std.proofs.Common.{◌≡◌, ℕ, ◌<◌, ◌≤◌, false, length, slice_index_or}
use Rattle.gb_series.proofs.nested.rows.last_present.Given as goal

abbrev pub invariant-loop-end : goal.invariant-loop-end
invariant-loop-end l =
    record { inside : l.end ≤ length l.present; absent : (k : ℕ) → l.end ≤ k → k < length l.present → slice_index_or l.present k false ≡ false }

abbrev pub decreases-loop-end : goal.decreases-loop-end
decreases-loop-end l = l.end
