use Rattle.std.proofs.Common.{◌≡◌, ◌∙◌, ap, take, get_or, length, arith, refl, sym, Bool, true, false, not}
use Rattle.std.proofs.lemmas.List.{length_push}
use Rattle.gb_defs.specs.Slot.{is_nil, slot_at}
use Rattle.gb_defs.specs.Fold.{valid, picked}
use Rattle.gb_defs.proofs.FoldLemmas.{picked_more, valid_push_null, valid_push_value}
use Rattle.gb_paths.proofs.MemberLemmas.{few_members}
use Rattle.gb_agg.proofs.number_fold.valid_at.Goals as goal
use Rattle.gb_agg.proofs.number_fold.valid_at.Goals.{then-is_valid, else-is_valid}

not_true : (b : Bool) → not b ≡ true → b ≡ false
not_true true e = cc
not_true false e = refl

not_false : (b : Bool) → not b ≡ false → b ≡ true
not_false true e = refl
not_false false e = cc

pub overflow_add-count : goal.overflow_add-count
overflow_add-count g c = omega (arith, c.loop-place.invariant.few, c.loop-place-test.true, few_members _ _ c.requires.rows, c.requires.short)

pub loop-place-preserved : goal.loop-place-preserved
loop-place-preserved g c =
    let slots = (g.C.SeriesTrait.value c.args.column.now).slots in
    let rows = g.R.GroupRows.rows c.args.rows.now in
    let at = c.loop-place.place in
    let before = picked slots (take at rows) in
    let s = slot_at slots (get_or rows at 0) in
    let read = sym (ap (λ row. not (is_nil (slot_at slots row))) c.row_at.ensures) ∙ sym c.is_valid.ensures in
    let more = ap (λ ss. length (valid ss)) (picked_more slots rows at (omega arith)) in
    elim c.if-is_valid.branch [
      | then-is_valid w ↦
          let value : is_nil s ≡ false = not_true (is_nil s) (read ∙ w.if-is_valid.true) in
          record {
            counted = omega (arith, w.count-is, c.loop-place.invariant.counted, more, ap length (valid_push_value before s value), length_push (valid before) s);
            few = omega (arith, w.count-is, c.loop-place.invariant.few);
          }
      | else-is_valid w ↦
          let null : is_nil s ≡ true = not_false (is_nil s) (read ∙ w.if-is_valid.false) in
          record {
            counted = omega (arith, w.count-is, c.loop-place.invariant.counted, more, ap length (valid_push_null before s null));
            few = omega (arith, w.count-is, c.loop-place.invariant.few);
          }
    ]
