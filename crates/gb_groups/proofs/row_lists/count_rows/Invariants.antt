use Rattle.std.proofs.Common.{◌≡◌, ℕ, get_or, take}
use Rattle.gb_groups.specs.Numbers.{count_of}
use Rattle.gb_groups.proofs.row_lists.count_rows.Given as goal

abbrev pub invariant-loop-number : goal.invariant-loop-number
invariant-loop-number l = (k : ℕ) → get_or l.counts k 0 ≡ count_of (take l.number-index l.numbers) k
