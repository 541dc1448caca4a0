use Rattle.std.proofs.Common.{◌≡◌, ◌+◌, ◌<◌, ◌∙◌, ℕ, List, ap, arith, get_or, length, refl, replicate, subst, sym}
use Rattle.std.proofs.lemmas.List.{get_or_default}
use Rattle.std.proofs.lemmas.List.FromFn.{get_or-range_with_len, length-range_with_len}
use Rattle.gb_defs.specs.Classes.{rows_below}
use Rattle.gb_agg.proofs.NumberedLemmas.{each_all, each_more, each_none}
use Rattle.gb_agg.proofs.row_fold.fold_row_numbers.Goals as goal

pub loop-row-init : goal.loop-row-init
loop-row-init g c =
    let numbers = c.args.numbers.now.of_rows.items in
    let groups : c.len.result ≡ length c.args.numbers.now.first.items = omega (arith, c.len.ensures) in
    each_none (g.F.RowFold.holds c.args.fold.now) (rows_below (length numbers)) numbers (length c.args.numbers.now.first.items) c.start.result c.in_ok-states.states.items (c.in_ok-states.ensures ∙ ap (λ n. replicate n c.start.result) groups) c.start.ensures

pub loop-row-preserved : goal.loop-row-preserved
loop-row-preserved g c =
    let holds = g.F.RowFold.holds c.args.fold.now in
    let numbers = c.args.numbers.now.of_rows.items in
    let n = c.loop-row.row in
    let same : get_or c.deref-number-items.result.now n 0 ≡ get_or numbers n 0 = ap (λ (ns : List ℕ). get_or ns n 0) c.deref-number-items.ensures.value in
    let number = get_or c.deref-number-items.result.now n 0 in
    let new = c.with_row.result in
    let lt : n < length numbers = rw c.deref-number-items.ensures.value at c.loop-row-test.true in
    let inside : number < length c.args.numbers.now.first.items = rw same (c.args.numbers.now.known n 0 lt) in
    let here = get_or_default c.loop-row.states.items number new c.index-state.result.now (omega (arith, inside, c.loop-row.invariant.as_many)) in
    let itself : 0 + n ≡ n = omega arith in
    each_more holds (rows_below (length numbers)) numbers (length c.args.numbers.now.first.items) (sym (length-range_with_len 0 (length numbers))) n number n lt (sym same)
    (get_or-range_with_len 0 (length numbers) n 0 lt ∙ itself) c.loop-row.states.items new inside
    (λ before known. c.with_row.ensures before (subst (holds before) (here ∙ sym c.index-state.ensures) known)) c.loop-row.invariant

pub returns : goal.returns
returns g c =
    let numbers = c.args.numbers.now.of_rows.items in
    each_all (g.F.RowFold.holds c.args.fold.now) (rows_below (length numbers)) numbers (length c.args.numbers.now.first.items) c.loop-row.row c.loop-row.states.items (sym (length-range_with_len 0 (length numbers)))
    (omega (arith, ap length c.deref-number-items.ensures.value, c.loop-row-test.false)) c.loop-row.invariant
