use Rattle.std.proofs.Common.{◌≡◌, ◌≢◌, ℕ, ◌+◌, ◌<◌, ◌%◌, length}
use Rattle.gb_table.specs.Table.{held_at}
use Rattle.gb_table.proofs.slots.free_spot.Given as goal

abbrev pub invariant-loop-probe : goal.invariant-loop-probe
invariant-loop-probe l = record {
  place : l.at ≡ (l.hash + l._probe) % length l.slots;
  taken : (d : ℕ) → d < l._probe → held_at l.slots (l.hash + d) ≢ 0;
}
