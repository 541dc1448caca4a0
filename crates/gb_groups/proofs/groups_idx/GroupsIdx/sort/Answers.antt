use Rattle.std.proofs.Common.{arith, rules, ◌++◌, ℕ, map, sym, ◌∙◌, ap}
use Rattle.std.proofs.lemmas.Fn.{always_returns_same}
use Rattle.std.proofs.lemmas.List.{length-map}
use Rattle.std.proofs.lemmas.Result.{err_from_is_err_and}
use Rattle.smallvec.specs.SmallVec.{SmallVec}
use Rattle.gb_defs.specs.Groups.{idx_groups}
use Rattle.gb_groups.specs.Groups.{lists_of, pairs_of}
use Rattle.gb_groups.proofs.ItemLemmas.{put_into}
use Rattle.gb_groups.proofs.OrderLemmas.{row_of, by_first, by_first_still, rows_ascend}
use Rattle.gb_groups.proofs.groups_idx.GroupsIdx.sort.Goals as goal

pub returns-then-self-clause-sorted : goal.returns-then-self-clause-sorted
returns-then-self-clause-sorted c =
    let all = c.self.inside.all.items in
    rw (← c.self.view_is) (by_first_still c.self.inside.first.items (lists_of all) (length-map all _ ∙ sym c.self.invariant.0) (c.self.invariant.1 c.if-self.true))

pub push_items-requires-clause-first_room : goal.push_items-requires-clause-first_room
push_items-requires-clause-first_room c =
    let none = c.in_ok-items.ensures.first_empty in
    let count = c.in_ok-items.ensures.count in
    rw none (omega arith)

pub push_items-requires-clause-all_room : goal.push_items-requires-clause-all_room
push_items-requires-clause-all_room c =
    let none = c.in_ok-items.ensures.all_empty in
    let count = c.in_ok-items.ensures.count in
    rw none (omega arith)

pub returns-in_err-sorted-clause-unchanged : goal.returns-in_err-sorted-clause-unchanged
returns-in_err-sorted-clause-unchanged c =
    let err = err_from_is_err_and c.from_residual-in_err-sorted.result c.from_residual-in_err-sorted.ensures.1 in
    let sorted = c.sort_by_key-sorted.new.self.items in
    let back = put_into sorted _ _ _ _ c.in_ok-items.ensures.first_empty c.in_ok-items.ensures.all_empty c.push_items.ensures.first_rows c.push_items.ensures.lists in
    let same = back ∙ ap pairs_of c.in_err-sorted.ensures.err ∙ c.in_ok-items.ensures.ok in
    rw err.1 (ap (λ pairs. idx_groups pairs c.self.inside.sorted) same ∙ c.self.view_is)

pub invariant_of-self-2 : goal.invariant_of-self-2
invariant_of-self-2 c =
    let sorted = c.sort_by_key-sorted.new.self.items in
    let computes = always_returns_same _ _ _ (λ a r q k. search rules) in
    let rows = c.push_items.ensures.first_rows ∙ ap (λ done. done ++ map row_of sorted) c.in_ok-items.ensures.first_empty in
    let lists = c.push_items.ensures.lists ∙ ap (λ done. done ++ map (λ (item : ℕ × SmallVec ℕ). item.1) sorted) c.in_ok-items.ensures.all_empty in
    rw (rows, lists) (length-map sorted row_of ∙ sym (length-map sorted _), λ _. rows_ascend sorted (c.in_ok-sorted.ensures.sorted row_of computes))

pub returns-clause-sorted : goal.returns-clause-sorted
returns-clause-sorted c =
    let sorted = c.sort_by_key-sorted.new.self.items in
    let computes = always_returns_same _ _ _ (λ a r q k. search rules) in
    let back = put_into sorted _ _ _ _ c.in_ok-items.ensures.first_empty c.in_ok-items.ensures.all_empty c.push_items.ensures.first_rows c.push_items.ensures.lists in
    let sort = by_first c.in_ok-items.items.items sorted c.in_ok-sorted.ensures.permutation (c.in_ok-sorted.ensures.sorted row_of computes) (c.in_ok-sorted.ensures.stable row_of computes) in
    rw (← c.self.view_is, back, ← c.in_ok-items.ensures.ok) sort
