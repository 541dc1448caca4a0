use Rattle.gb_groups.proofs.SliceLemmas.{slices_ascend}
use Rattle.gb_groups.proofs.groups_type.GroupsType.is_sorted_flag.Goals as goal

pub returns-in-Slice-clause-ascend : goal.returns-in-Slice-clause-ascend
returns-in-Slice-clause-ascend c = λ _. rw c.in-Slice.is (slices_ascend c.in-Slice.groups c.as_slice.ensures.fit)
