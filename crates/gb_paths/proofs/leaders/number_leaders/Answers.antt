use Rattle.std.proofs.Common.{◌∙◌, ap, arith, length}
use Rattle.std.proofs.lemmas.List.FromFn.{length-map-range_with_len}
use Rattle.std.proofs.lemmas.List.Elements.{All-from_recursion}
use Rattle.gb_defs.proofs.ClassesLemmas.{firsts_ascend}
use Rattle.gb_paths.specs.Leaders.{same_leader}
use Rattle.gb_paths.specs.Numbering.{number_in}
use Rattle.gb_paths.proofs.LeaderLemmas.{first_few, next_numbers, no_numbers, numbers_all}
use Rattle.gb_paths.proofs.leaders.number_leaders.Goals as goal

pub loop-row-init : goal.loop-row-init
loop-row-init c = rw (c.in_ok-first.ensures.items, c.in_ok-of_rows.ensures.items) (no_numbers (same_leader c.args.leaders.now))

pub push_number-requires-clause-rows : goal.push_number-requires-clause-rows
push_number-requires-clause-rows c = ap length c.loop-row.invariant.numbers_are ∙ length-map-range_with_len (number_in (same_leader c.args.leaders.now) c.loop-row.first.items) 0 c.loop-row.row

pub push_number-requires-clause-few : goal.push_number-requires-clause-few
push_number-requires-clause-few c = first_few c.args.leaders.now c.requires.leaders c.loop-row.row c.loop-row-test.true c.loop-row.first.items c.loop-row.of_rows.items c.loop-row.invariant

pub loop-row-preserved : goal.loop-row-preserved
loop-row-preserved c =
    rw (c.in_ok-push_number.ensures.first, c.in_ok-push_number.ensures.number)
    (next_numbers c.args.leaders.now c.requires.leaders c.loop-row.row c.loop-row-test.true c.loop-row.first.items c.loop-row.of_rows.items c.loop-row.invariant)

pub invariant_of-result-clause-known : goal.invariant_of-result-clause-known
invariant_of-result-clause-known c =
    All-from_recursion _ c.loop-row.of_rows.items
    (numbers_all c.args.leaders.now c.loop-row.row c.loop-row.first.items c.loop-row.of_rows.items c.loop-row.invariant)

pub invariant_of-result-clause-ascend : goal.invariant_of-result-clause-ascend
invariant_of-result-clause-ascend c = rw c.loop-row.invariant.first_is (firsts_ascend (same_leader c.args.leaders.now) c.loop-row.row)

pub invariant_of-result-clause-few : goal.invariant_of-result-clause-few
invariant_of-result-clause-few c =
    let many = ap length c.loop-row.invariant.numbers_are ∙ length-map-range_with_len (number_in (same_leader c.args.leaders.now) c.loop-row.first.items) 0 c.loop-row.row in
    omega (arith, many, c.requires.few, c.loop-row.auto.row-end)
