use Rattle.std.proofs.Common.{◌<◌, ℕ, [], get_or}
use Rattle.gb_hash.specs.Short.{IsShort}
use Rattle.gb_hash.proofs.list_rows.is_short_chunk.Given as goal

abbrev pub invariant-loop-i : goal.invariant-loop-i
invariant-loop-i l = (k : ℕ) → k < l.i → IsShort (get_or l.chunk k [])
