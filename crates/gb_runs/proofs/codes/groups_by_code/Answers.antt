use Rattle.std.proofs.Common.{◌≡◌, ◌∙◌, ◌+◌, ◌↔◌, IsTrue, List, ℕ, ap, arith, cond, length}
use Rattle.std.specs.List.Sorted.{IsNonDecreasing}
use Rattle.std.proofs.lemmas.List.{length-map}
use Rattle.std.proofs.lemmas.List.FromFn.{length-range_with_len}
use Rattle.gb_defs.specs.Classes.{rows_below}
use Rattle.smallvec.specs.SmallVec.{SmallVec}
use Rattle.gb_groups.specs.Groups.{lists_of}
use Rattle.gb_groups.specs.Numbers.{lists_by}
use Rattle.gb_runs.specs.Codes.{group_count, heads_of, number_of, numbers_of}
use Rattle.gb_runs.proofs.CodeLemmas.{coded_groups, codes_few, numbers_known}
use Rattle.gb_runs.proofs.codes.groups_by_code.Goals as goal

pub code_numbers-requires-clause-few : goal.code_numbers-requires-clause-few
code_numbers-requires-clause-few g c = omega (arith, codes_few c.args.column.now.slots c.args.count c.requires.codes, c.requires.few)

pub group_count-groups-requires : goal.group_count-groups-requires
group_count-groups-requires g c = omega (arith, codes_few c.args.column.now.slots c.args.count c.requires.codes, c.requires.few)

pub row_lists-requires-clause-each : goal.row_lists-requires-clause-each
row_lists-requires-clause-each g c = omega (arith, c.as_slice.ensures.len, c.len.ensures, c.new-members.ensures, length-range_with_len 0 c.new-members.result.count)

pub row_lists-requires-clause-known : goal.row_lists-requires-clause-known
row_lists-requires-clause-known g c =
    rw (c.as_slice.ensures.value, c.in_ok-numbers.ensures, c.group_count-groups.ensures, c.has_nulls.ensures) (numbers_known c.args.column.now.slots c.args.count c.requires.codes)

pub returns-clause-ok : goal.returns-clause-ok
returns-clause-ok g c =
    let slots = c.args.column.now.slots in
    let count = c.args.count in
    let numbers = c.as_slice.ensures.value ∙ c.in_ok-numbers.ensures in
    let rows : c.new-members.result.count ≡ length slots = omega (arith, c.new-members.ensures, c.len.ensures, ap length c.in_ok-numbers.ensures, length-map slots (number_of count)) in
    let groups : c.group_count-groups.result ≡ group_count count slots = c.group_count-groups.ensures ∙ ap (λ b. count + cond b 1 0) c.has_nulls.ensures in
    let listed : lists_of c.in_ok-all.all.items ≡ lists_by (rows_below (length slots)) (numbers_of count slots) (group_count count slots) =
    c.in_ok-all.ensures ∙ ap (λ n. lists_by (rows_below n) c.as_slice.result.now c.group_count-groups.result) rows
    ∙ ap (λ ns. lists_by (rows_below (length slots)) ns c.group_count-groups.result) numbers ∙ ap (lists_by (rows_below (length slots)) (numbers_of count slots)) groups in
    let heads = c.in_ok-first.ensures ∙ ap (λ (l : List (SmallVec ℕ)). heads_of (lists_of l)) c.as_slice-2.ensures.value in
    let tells : IsTrue c.firsts_ascend-sorted.result ↔ IsNonDecreasing c.in_ok-first.first.items = rw c.as_slice-3.ensures.value at c.firsts_ascend-sorted.ensures in
    c.from.ensures ∙ c.new.ensures ∙ coded_groups slots count c.requires.codes c.in_ok-first.first.items (lists_of c.in_ok-all.all.items) c.firsts_ascend-sorted.result listed heads tells
