use Rattle.std.proofs.Common.{◌∷◌, drop}
use Rattle.gb_defs.specs.Groups.{AreMembers}
use Rattle.gb_groups.proofs.fits.rise_from.Given as goal

abbrev pub invariant-loop-next : goal.invariant-loop-next
invariant-loop-next l = record {
  there : AreMembers l.n (l.row ∷ l.later) → AreMembers l.n (l.last ∷ drop l.next-index l.later);
  back : AreMembers l.n (l.last ∷ drop l.next-index l.later) → AreMembers l.n (l.row ∷ l.later);
}
