use Rattle.std.proofs.Common.{arith, ◌≡◌, ◌+◌, ◌∙◌, ap, sym, take, drop, ℕ, List}
use Rattle.smallvec.specs.SmallVec.{SmallVec}
use Rattle.gb_defs.specs.Groups.{Grouping}
use Rattle.gb_groups.proofs.ViewLemmas.{ascend_part, paired_part, part_long, within_all, within_first}
use Rattle.gb_groups.proofs.groups_idx.GroupsIdx.lists.Goals as goal

pub part_of-requires : goal.part_of-requires
part_of-requires c =
    let within = within_first c.self.inside.first.items c.self.inside.all.items (c.args.start + c.args.count) (rw (← c.self.view_is) at c.requires) in
    omega (arith, within)

pub part_of-requires-2 : goal.part_of-requires-2
part_of-requires-2 c =
    let within = within_all c.self.inside.first.items c.self.inside.all.items (c.args.start + c.args.count) (rw (← c.self.view_is) at c.requires) in
    omega (arith, within)

pub returns-clause-pairs : goal.returns-clause-pairs
returns-clause-pairs c =
    let first = c.self.inside.first.items in
    let all = c.self.inside.all.items in
    let first_is : c.part_of.result.now ≡ take c.args.count (drop c.args.start first) = c.part_of.ensures ∙ ap (λ (xs : List ℕ). take c.args.count (drop c.args.start xs)) c.as_slice.ensures.value in
    let all_is : c.part_of-2.result.now ≡ take c.args.count (drop c.args.start all) = c.part_of-2.ensures ∙ ap (λ (xs : List (SmallVec ℕ)). take c.args.count (drop c.args.start xs)) c.as_slice-2.ensures.value in
    paired_part first c.part_of.result.now all c.part_of-2.result.now c.args.start c.args.count first_is all_is ∙ ap (λ (g : Grouping). take c.args.count (drop c.args.start g.pairs)) c.self.view_is

pub returns-clause-each : goal.returns-clause-each
returns-clause-each c =
    let first = c.self.inside.first.items in
    let all = c.self.inside.all.items in
    let within = rw (← c.self.view_is) at c.requires in
    let first_long = part_long first c.args.start c.args.count (within_first first all (c.args.start + c.args.count) within) in
    let all_long = part_long all c.args.start c.args.count (within_all first all (c.args.start + c.args.count) within) in
    rw (c.part_of.ensures, c.as_slice.ensures.value, c.part_of-2.ensures, c.as_slice-2.ensures.value) (first_long ∙ sym all_long)

pub returns-clause-ascend : goal.returns-clause-ascend
returns-clause-ascend c =
    λ flagged. rw (c.part_of.ensures, c.as_slice.ensures.value) (ascend_part c.self.inside.first.items c.args.start c.args.count (c.self.invariant.1 (rw (← c.self.view_is) at flagged)))
