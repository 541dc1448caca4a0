use Rattle.std.proofs.Common.{◌≡◌, ◌+◌, ◌%◌, length}
use Rattle.gb_table.proofs.EntryLemmas.{HasKey}
use Rattle.gb_table.proofs.SearchLemmas.{IsPast}
use Rattle.gb_table.proofs.group_table.probe.Given as goal

abbrev pub invariant-loop-probe : goal.invariant-loop-probe
invariant-loop-probe g l = record {
  place : l.at ≡ (l.hash + l._probe) % length l.slots;
  past : IsPast l.slots l.hash (HasKey g.K.PartialEq.eq l.slots l.entries l.hash l.key) l._probe;
}
