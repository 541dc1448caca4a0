use Rattle.std.proofs.Common.{◌∙◌, ap, arith, length, subst, sym}
use Rattle.std.specs.Cmp.{on_equiv}
use Rattle.std.proofs.lemmas.List.FromFn.{length-map-range_with_len}
use Rattle.gb_defs.specs.Classes.{rows_below}
use Rattle.gb_defs.specs.Rows.{same_slot_at}
use Rattle.gb_defs.proofs.SlotLemmas.{slot_eq_equiv}
use Rattle.gb_paths.specs.Leaders.{AreLeaders, leader_among, same_leader}
use Rattle.gb_paths.specs.Numbering.{AreNumbersOf}
use Rattle.gb_paths.proofs.LeaderLemmas.{are_leaders, leaders_alike, leaders_of, numbers_alike}
use Rattle.gb_paths.proofs.number_partitions.number_by_partitions.Goals as goal

pub number_leaders-requires-clause-few : goal.number_leaders-requires-clause-few
number_leaders-requires-clause-few g c =
    let rows = g.R.KeyRows.rows c.args.rows.now in
    let long = ap length (c.deref.ensures.value ∙ c.in_ok-leaders.ensures.ok) ∙ length-map-range_with_len (leader_among rows) 0 rows.count in
    omega (arith, long, c.requires.few)

pub number_leaders-requires-clause-leaders : goal.number_leaders-requires-clause-leaders
number_leaders-requires-clause-leaders g c =
    let rows = g.R.KeyRows.rows c.args.rows.now in
    subst AreLeaders (sym (c.deref.ensures.value ∙ c.in_ok-leaders.ensures.ok)) (are_leaders (same_slot_at rows.slot) (on_equiv rows.slot slot_eq_equiv) rows.count)

pub returns-clause-ok : goal.returns-clause-ok
returns-clause-ok g c =
    let rows = g.R.KeyRows.rows c.args.rows.now in
    let agree = same_slot_at rows.slot in
    let equiv = on_equiv rows.slot slot_eq_equiv in
    let first = c.in_ok-numbers.numbers.first.items in
    let numbers = c.in_ok-numbers.numbers.of_rows.items in
    let all = leaders_of agree equiv rows.count in
    let is = c.deref.ensures.value ∙ c.in_ok-leaders.ensures.ok in
    let long = length-map-range_with_len (leader_among rows) 0 rows.count in
    let mine = subst (λ ls. AreNumbersOf (same_leader ls) (rows_below (length ls)) first numbers) is c.in_ok-numbers.ensures in
    let every = subst (λ n. AreNumbersOf (same_leader all) (rows_below n) first numbers) long mine in
    numbers_alike (same_leader all) agree rows.count (leaders_alike agree equiv rows.count) first numbers every
