use Rattle.std.proofs.Common.{◌≡◌, ◌∙◌, Bool, ap, ap₂, refl, sym}
use Rattle.gb_defs.specs.Groups.{Grouping, Idx, Slice}
use Rattle.gb_groups.specs.GroupsType.{groups_of}
use Rattle.gb_groups.specs.Same.{same_groups}
use Rattle.gb_groups.specs.Slices.{slice_groups, slice_pair}
use Rattle.gb_groups.specs.Views.{part_from}
use Rattle.gb_groups.specs.declared.groups_slice.GroupsSlice.{GroupsSlice}
use Rattle.gb_groups.specs.declared.groups_type.GroupsType.{GroupsType}
use Rattle.gb_groups.specs.declared.groups_type.GroupsType.TheVariants.{Idx as Lists, Slice as Runs}
use Rattle.gb_groups.proofs.SameLemmas.{flags_same, same_never, same_when}
use Rattle.gb_groups.proofs.ViewLemmas.{part_map}
use Rattle.gb_groups.proofs.view.GroupsViewPartialEq.eq.Goals as goal

pub returns-then-is_sorted_flag : goal.returns-then-is_sorted_flag
returns-then-is_sorted_flag c =
    let groups = c.in-Idx-Idx.groups in
    let others = c.in-Idx-Idx.others in
    let one = part_from groups c.self.inside.start c.self.inside.count in
    let other = part_from others c.other.inside.start c.other.inside.count in
    let one_is : one ≡ c.args.self.now = ap (λ (t : GroupsType). part_from (groups_of t) c.self.inside.start c.self.inside.count) (sym c.in-Idx-Idx.is-0) ∙ c.self.view_is in
    let other_is : other ≡ c.args.other.now = ap (λ (t : GroupsType). part_from (groups_of t) c.other.inside.start c.other.inside.count) (sym c.in-Idx-Idx.is-1) ∙ c.other.view_is in
    let form : groups.form ≡ others.form = c.is_sorted_flag.ensures.form ∙ sym c.is_sorted_flag-in-Idx-Idx.ensures.form in
    let flag : groups.flagged ≡ others.flagged = sym c.is_sorted_flag.ensures.flag ∙ flags_same _ _ c.if-is_sorted_flag.true ∙ c.is_sorted_flag-in-Idx-Idx.ensures.flag in
    let told = rw (c.lists.ensures.pairs, c.lists-in-Idx-Idx.ensures.pairs) at c.same_lists.ensures in
    same_when one other form flag c.same_lists.result told ∙ ap₂ same_groups one_is other_is

pub returns-then-rolling-roll : goal.returns-then-rolling-roll
returns-then-rolling-roll c =
    let at = c.in-Slice-Slice in
    let one = part_from (slice_groups at.groups at.rolling) c.self.inside.start c.self.inside.count in
    let other = part_from (slice_groups at.others at.roll) c.other.inside.start c.other.inside.count in
    let one_is : one ≡ c.args.self.now = ap (λ (t : GroupsType). part_from (groups_of t) c.self.inside.start c.self.inside.count) (sym at.is-0) ∙ c.self.view_is in
    let other_is : other ≡ c.args.other.now = ap (λ (t : GroupsType). part_from (groups_of t) c.other.inside.start c.other.inside.count) (sym at.is-1) ∙ c.other.view_is in
    let shown = rw (c.runs-runs.ensures.value, c.runs-other_runs.ensures.value) at c.same_runs.ensures in
    let told = rw (part_map slice_pair at.groups c.self.inside.start c.self.inside.count, part_map slice_pair at.others c.other.inside.start c.other.inside.count) at shown in
    same_when one other (ap Slice (flags_same at.rolling at.roll c.if-rolling-roll.true)) refl c.same_runs.result told ∙ ap₂ same_groups one_is other_is

-- lists and runs have other forms
forms_differ : (t u : GroupsType) {lists : Grouping} {runs : GroupsSlice} {rolling : Bool} → t ≡ Lists lists → lists.form ≡ Idx → u ≡ Runs runs rolling → (groups_of t).form ≡ (groups_of u).form → ⊥
forms_differ t u {lists} {runs} {rolling} t_is form u_is same =
    let of_lists : Idx ≡ (groups_of t).form = sym form ∙ ap (λ (x : GroupsType). (groups_of x).form) (sym t_is) in
    let of_runs : (groups_of u).form ≡ Slice rolling = ap (λ (x : GroupsType). (groups_of x).form) u_is in
    let both : Idx ≡ Slice rolling = of_lists ∙ same ∙ of_runs in
    cc

pub returns-in-Idx-Slice : goal.returns-in-Idx-Slice
returns-in-Idx-Slice c =
    rw (← c.self.view_is, ← c.other.view_is)
    (same_never (part_from (groups_of c.self.inside.groups.now) c.self.inside.start c.self.inside.count) (part_from (groups_of c.other.inside.groups.now) c.other.inside.start c.other.inside.count)
    (λ e. forms_differ c.self.inside.groups.now c.other.inside.groups.now c.in-Idx-Slice.is-0 c.is_sorted_flag-in-Idx-Slice.ensures.form c.in-Idx-Slice.is-1 e))

pub returns-in-Slice-Idx : goal.returns-in-Slice-Idx
returns-in-Slice-Idx c =
    rw (← c.self.view_is, ← c.other.view_is)
    (same_never (part_from (groups_of c.self.inside.groups.now) c.self.inside.start c.self.inside.count) (part_from (groups_of c.other.inside.groups.now) c.other.inside.start c.other.inside.count)
    (λ e. forms_differ c.other.inside.groups.now c.self.inside.groups.now c.in-Slice-Idx.is-1 c.is_sorted_flag-in-Slice-Idx.ensures.form c.in-Slice-Idx.is-0 (sym e)))
