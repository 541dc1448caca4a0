use Rattle.std.proofs.Common.{◌≤◌, vec_capacity}
use Rattle.gb_flat.proofs.CleanLemmas.{IsDealt}
use Rattle.gb_flat.proofs.clean.create_clean_partitions.Given as goal

abbrev pub invariant-loop-k : goal.invariant-loop-k
invariant-loop-k g l = record {
  dealt : IsDealt g.T.PartialEq.eq l.values l.each l.most l.k l.start l.parts.items;
  room : l.most ≤ vec_capacity l.parts;
}
