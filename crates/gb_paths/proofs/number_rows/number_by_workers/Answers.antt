use Rattle.std.proofs.Common.{◌≡◌, ◌∙◌, ap, arith, length, subst}
use Rattle.std.specs.Cmp.{on_equiv}
use Rattle.std.proofs.lemmas.List.{length-map}
use Rattle.std.proofs.lemmas.List.Elements.{All-from_recursion}
use Rattle.std.proofs.lemmas.List.FromFn.{length-range_with_len}
use Rattle.gb_defs.specs.Classes.{rows_below}
use Rattle.gb_defs.specs.Rows.{same_slot_at}
use Rattle.gb_defs.proofs.SlotLemmas.{slot_eq_equiv}
use Rattle.gb_paths.specs.Numbering.{AreNumbersAmong, firsts_in, number_in, renumbered}
use Rattle.gb_paths.proofs.NumberingLemmas.{numbers_known}
use Rattle.gb_paths.proofs.PartLemmas.{all_numbered, parts_members, range_rises}
use Rattle.gb_paths.proofs.number_rows.number_by_workers.Goals as goal

pub number_members-requires-clause-members : goal.number_members-requires-clause-members
number_members-requires-clause-members g c κs within =
    let rows = g.R.KeyRows.rows c.args.rows.now in
    let parts = c.in_ok-parts.parts.items in
    let members = parts_members (same_slot_at rows.slot) (on_equiv rows.slot slot_eq_equiv) c.len-count.result c.args.workers c.requires.some parts c.in_ok-parts.ensures.len
    (λ k d lt. (c.in_ok-parts.ensures.each k d lt).1.0) in
    rw (c.deref-2.ensures.value, c.in_ok-firsts.ensures, c.deref.ensures.value) (rw c.len-count.ensures at members)

pub invariant_of-result-clause-known : goal.invariant_of-result-clause-known
invariant_of-result-clause-known g c =
    let rows = g.R.KeyRows.rows c.args.rows.now in
    let parts = c.in_ok-parts.parts.items in
    let first = c.in_ok-all.all.first.items in
    let numbers = c.in_ok-all.all.of_rows.items in
    let listed = c.deref-2.ensures.value ∙ c.in_ok-firsts.ensures ∙ ap firsts_in c.deref.ensures.value in
    let mine : AreNumbersAmong rows (firsts_in parts) c.in_ok-all.all = subst (λ rs. AreNumbersAmong rows rs c.in_ok-all.all) listed c.in_ok-all.ensures.ok in
    let made = c.in_ok-of_rows.ensures ∙ ap (λ ns. renumbered ns c.deref-3.result.now) c.deref-4.ensures.value ∙ ap (renumbered numbers) c.deref-3.ensures.value in
    let all = all_numbered (same_slot_at rows.slot) (on_equiv rows.slot slot_eq_equiv) c.len-count.result c.args.workers c.requires.some parts c.in_ok-parts.ensures.len
    (λ k d lt. (c.in_ok-parts.ensures.each k d lt).1.0) rows.count c.len-count.ensures first numbers c.in_ok-of_rows.of_rows.items mine made in
    All-from_recursion _ c.in_ok-of_rows.of_rows.items
    (numbers_known (same_slot_at rows.slot) (on_equiv rows.slot slot_eq_equiv) (rows_below rows.count) (range_rises 0 rows.count) first c.in_ok-of_rows.of_rows.items all)

pub invariant_of-result-clause-few : goal.invariant_of-result-clause-few
invariant_of-result-clause-few g c =
    let rows = g.R.KeyRows.rows c.args.rows.now in
    let parts = c.in_ok-parts.parts.items in
    let first = c.in_ok-all.all.first.items in
    let numbers = c.in_ok-all.all.of_rows.items in
    let listed = c.deref-2.ensures.value ∙ c.in_ok-firsts.ensures ∙ ap firsts_in c.deref.ensures.value in
    let mine : AreNumbersAmong rows (firsts_in parts) c.in_ok-all.all = subst (λ rs. AreNumbersAmong rows rs c.in_ok-all.all) listed c.in_ok-all.ensures.ok in
    let made = c.in_ok-of_rows.ensures ∙ ap (λ ns. renumbered ns c.deref-3.result.now) c.deref-4.ensures.value ∙ ap (renumbered numbers) c.deref-3.ensures.value in
    let all = all_numbered (same_slot_at rows.slot) (on_equiv rows.slot slot_eq_equiv) c.len-count.result c.args.workers c.requires.some parts c.in_ok-parts.ensures.len
    (λ k d lt. (c.in_ok-parts.ensures.each k d lt).1.0) rows.count c.len-count.ensures first numbers c.in_ok-of_rows.of_rows.items mine made in
    let many : length c.in_ok-of_rows.of_rows.items ≡ rows.count = ap length all.numbers_are ∙ length-map (rows_below rows.count) (number_in (same_slot_at rows.slot) first) ∙ length-range_with_len 0 rows.count in
    omega (arith, many, c.requires.few)

pub returns-clause-ok : goal.returns-clause-ok
returns-clause-ok g c =
    let rows = g.R.KeyRows.rows c.args.rows.now in
    let parts = c.in_ok-parts.parts.items in
    let first = c.in_ok-all.all.first.items in
    let numbers = c.in_ok-all.all.of_rows.items in
    let listed = c.deref-2.ensures.value ∙ c.in_ok-firsts.ensures ∙ ap firsts_in c.deref.ensures.value in
    let mine : AreNumbersAmong rows (firsts_in parts) c.in_ok-all.all = subst (λ rs. AreNumbersAmong rows rs c.in_ok-all.all) listed c.in_ok-all.ensures.ok in
    let made = c.in_ok-of_rows.ensures ∙ ap (λ ns. renumbered ns c.deref-3.result.now) c.deref-4.ensures.value ∙ ap (renumbered numbers) c.deref-3.ensures.value in
    let all = all_numbered (same_slot_at rows.slot) (on_equiv rows.slot slot_eq_equiv) c.len-count.result c.args.workers c.requires.some parts c.in_ok-parts.ensures.len
    (λ k d lt. (c.in_ok-parts.ensures.each k d lt).1.0) rows.count c.len-count.ensures first numbers c.in_ok-of_rows.of_rows.items mine made in
    all
