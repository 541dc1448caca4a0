use Rattle.std.proofs.Common.{drop}
use Rattle.gb_groups.specs.Slices.{SlicesFit}
use Rattle.gb_groups.proofs.SliceLemmas.{RisesFrom}
use Rattle.gb_groups.proofs.groups_slice.GroupsSlice.slices_fit.Given as goal

abbrev pub invariant-loop-slice : goal.invariant-loop-slice
invariant-loop-slice l = record {
  there : SlicesFit l.slices → RisesFrom l.least (drop l.slice-index l.slices);
  back : RisesFrom l.least (drop l.slice-index l.slices) → SlicesFit l.slices;
}
