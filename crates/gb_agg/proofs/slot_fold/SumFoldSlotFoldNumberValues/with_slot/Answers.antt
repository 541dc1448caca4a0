use Rattle.std.proofs.Common.{◌≡◌, ◌∙◌, ◌+ℤ◌, ◌++◌, ◌∷◌, [], ℤ, ap, refl, sym}
use Rattle.gb_defs.proofs.FoldLemmas.{sum_push_value}
use Rattle.gb_defs.specs.ColumnType.{Flat}
use Rattle.gb_defs.specs.Fold.{total, valid, wrap}
use Rattle.gb_defs.specs.Slot.{Slot, Num, slot_at}
use Rattle.gb_values.specs.Array.{native_slot}
use Rattle.gb_agg.proofs.slot_fold.SumFoldSlotFoldNumberValues.with_slot.Goals as goal

pub returns-in-Some : goal.returns-in-Some
returns-in-Some g c = λ slots known.
    let number = g.T.Native.Native.number in
    let t = Flat g.T.Native.Native.flat in
    let slot : Num (number c.in-Some.number) ≡ slot_at c.args.chunk.now c.args.at = ap (native_slot number) (sym c.in-Some.is) ∙ c.get.ensures in
    c.add_wrapped.ensures ∙ ap (λ (s : ℤ). wrap t (s +ℤ number c.in-Some.number)) known
    ∙ sum_push_value t slots (Num (number c.in-Some.number)) refl
    ∙ ap (λ (s : Slot). wrap t (total (valid (slots ++ s ∷ [])))) slot
