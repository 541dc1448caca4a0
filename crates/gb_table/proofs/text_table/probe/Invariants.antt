use Rattle.std.proofs.Common.{◌≡◌, ◌+◌, ◌%◌, length}
use Rattle.gb_table.specs.TextKey.{hash_of}
use Rattle.gb_table.proofs.SearchLemmas.{IsPast}
use Rattle.gb_table.proofs.TextTableLemmas.{StandsAt}
use Rattle.gb_table.proofs.text_table.probe.Given as goal

abbrev pub invariant-loop-probe : goal.invariant-loop-probe
invariant-loop-probe l = record {
  place : l.at ≡ (hash_of l.key + l._probe) % length l.slots;
  past : IsPast l.slots (hash_of l.key) (StandsAt l.texts l.text) l._probe;
}
