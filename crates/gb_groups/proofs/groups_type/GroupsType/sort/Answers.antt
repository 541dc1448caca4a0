use Rattle.gb_groups.specs.Slices.{slice_pairs}
use Rattle.gb_groups.proofs.OrderLemmas.{in_order_still}
use Rattle.gb_groups.proofs.SliceLemmas.{slices_ascend}
use Rattle.gb_groups.proofs.groups_type.GroupsType.sort.Goals as goal

pub returns-in-Slice-clause-sorted : goal.returns-in-Slice-clause-sorted
returns-in-Slice-clause-sorted c = rw c.in-Slice.is (in_order_still (slice_pairs c.in-Slice.groups) (slices_ascend c.in-Slice.groups c.as_slice.ensures.fit))
