use Rattle.std.proofs.Common.{refl}
use Rattle.gb_defs.specs.Groups.{Grouping, idx_groups}
use Rattle.gb_groups.specs.Groups.{paired}
use Rattle.gb_groups.proofs.SameLemmas.{flags_same, same_when}
use Rattle.gb_groups.proofs.groups_idx.GroupsIdxPartialEq.eq.Goals as goal

pub returns-then-self-other : goal.returns-then-self-other
returns-then-self-other c =
    let mine = c.self.inside in
    let theirs = c.other.inside in
    let one : Grouping = idx_groups (paired mine.first.items mine.all.items) mine.sorted in
    let other : Grouping = idx_groups (paired theirs.first.items theirs.all.items) theirs.sorted in
    let told = rw (c.as_slice.ensures.value, c.as_slice-then-self-other.ensures.value, c.as_slice-then-self-other-2.ensures.value, c.as_slice-then-self-other-3.ensures.value) at c.same_lists.ensures in
    rw (← c.self.view_is, ← c.other.view_is) (same_when one other refl (flags_same mine.sorted theirs.sorted c.if-self-other.true) c.same_lists.result told)
