use Rattle.std.proofs.Common.{◌≡◌, ℤ, ◌+ℤ◌, List, ◌++◌, ◌∷◌, [], Option, Some, None, get_or, take, refl, sym, ◌∙◌, ap, FitsSigned, w64, rules}
use Rattle.std.specs.Option.{MatchOption}
use Rattle.std.proofs.lemmas.List.{get_or-map}
use Rattle.std.proofs.lemmas.Int.{to_z-of_z}
use Rattle.gb_defs.specs.Slot.{Slot, Nil, slot_at}
use Rattle.gb_defs.specs.ColumnType.{int64}
use Rattle.gb_defs.specs.Fold.{wrap, total, valid, picked}
use Rattle.gb_defs.specs.Slow.{value_slot, value_slots}
use Rattle.gb_defs.proofs.FoldLemmas.{picked_more, sum_push_null, sum_push_value}
use Rattle.gb_defs.proofs.slow.sum.Goals as goal

sum_next : (slot : Option ℤ) (before after : ℤ) (ss : List Slot) → MatchOption slot (after ≡ before) (λ n. after ≡ wrap int64 (before +ℤ n)) →
    before ≡ wrap int64 (total (valid ss)) → after ≡ wrap int64 (total (valid (ss ++ value_slot slot ∷ [])))
sum_next None before after ss e h = e ∙ h ∙ sum_push_null int64 ss Nil refl
sum_next (Some n) before after ss e h = e ∙ ap (λ b. wrap int64 (b +ℤ n)) h ∙ sum_push_value int64 ss (value_slot (Some n)) refl

pub loop-row-preserved : goal.loop-row-preserved
loop-row-preserved c =
    let values = c.args.values.now in
    let rows = c.args.rows.now in
    let at = c.loop-row.row-index in
    let row = get_or rows at 0 in
    let inside = c.requires at 0 c.loop-row-test.true in
    let slot : slot_at (value_slots values) row ≡ value_slot (get_or values row None) = get_or-map value_slot values row None Nil inside in
    let fits : FitsSigned w64 c.with_slot-sum.result = search rules in
    to_z-of_z w64 c.with_slot-sum.result fits
    ∙ sum_next (get_or values row None) _ c.with_slot-sum.result (picked (value_slots values) (take at rows)) c.with_slot-sum.ensures.value c.loop-row.invariant
    ∙ ap (λ s. wrap int64 (total (valid (picked (value_slots values) (take at rows) ++ s ∷ [])))) (sym slot)
    ∙ ap (λ ss. wrap int64 (total (valid ss))) (sym (picked_more (value_slots values) rows at c.loop-row-test.true))
