use Rattle.std.proofs.Common.{arith, ◌≤◌, ◌∙◌, ◌+◌, ap, length, ℕ, w64}
use Rattle.std.specs.Arc.{arc_value}
use Rattle.std.proofs.lemmas.Int.{to_z-of_z}
use Rattle.gb_groups.specs.GroupsType.{groups_of}
use Rattle.gb_groups.specs.declared.groups_type.GroupsType.{GroupsType}
use Rattle.gb_groups.specs.Views.{part_from, sliced_groups}
use Rattle.gb_groups.proofs.ViewLemmas.{shown_part, start_in}
use Rattle.gb_groups.proofs.positions.GroupPositions.slice.Goals as goal

pub overflow_add-result : goal.overflow_add-result
overflow_add-result c =
    let from : c.slice_bounds-from.result.0 ≤ c.self.inside.count = rw c.slice_bounds-from.ensures.start (start_in c.self.inside.count _) in
    let all = ap (λ (t : GroupsType). length (groups_of t).pairs) c.deref.ensures in
    omega (arith, from, all, c.len.ensures, c.len.type_inv, c.self.invariant)

pub returns : goal.returns
returns c =
    let groups = groups_of (arc_value c.self.inside.groups) in
    let at = c.slice_bounds-from in
    let from_is = rw (to_z-of_z w64 c.args.offset c.ranges.offset) at at.ensures.start in
    let to_is = rw (to_z-of_z w64 c.args.offset c.ranges.offset) at at.ensures.end in
    let shown = shown_part groups c.self.inside.start c.self.inside.count c.self.invariant c.args.offset c.args.len at.result.0 at.result.1 from_is to_is in
    ap (λ (n : ℕ). part_from groups (c.self.inside.start + at.result.0) n) c.saturating_sub.ensures ∙ shown ∙ ap (sliced_groups c.args.offset c.args.len) c.self.view_is
