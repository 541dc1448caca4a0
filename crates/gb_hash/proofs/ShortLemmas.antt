-- Rows of short texts agree where their texts are one.
use Rattle.std.proofs.Common.{◌≡◌, ℕ, ◌<◌, Bool, true, false, inl, inr, List, [], length, get_or, map, sym, ◌∙◌, ap, arith, All}
use Rattle.std.specs.Bool.{Decides}
use Rattle.std.specs.Int.{w64}
use Rattle.std.proofs.lemmas.Bool.{cases_Bool}
use Rattle.std.proofs.lemmas.List.{get_or-map, length-map}
use Rattle.gb_table.specs.TextKey.{key_of}
use Rattle.gb_table.proofs.KeyLemmas.{key_tells}
use Rattle.gb_defs.specs.Rows.{rows_of_slots, same_slot_at}
use Rattle.gb_defs.specs.Slot.{Bytes, Nil, Slot, slot_at}
use Rattle.gb_defs.proofs.SlotLemmas.{Decides-slot_eq}
use Rattle.gb_hash.specs.Short.{IsShort, key_slot, short_rows, slot_tells}

-- tests of what holds alike are alike
pub same_test : {P Q : Type 0} (a b : Bool) → Decides a P → Decides b Q → (P → Q) → (Q → P) → a ≡ b
same_test a b d e there back = elim (cases_Bool a) [
  | inl yes' ↦ yes' ∙ sym (e.1 (there (d.0 yes')))
  | inr no' ↦ elim (cases_Bool b) [
    | inl f ↦ let g : a ≡ true = d.1 (back (e.0 f)) in cc
    | inr f ↦ no' ∙ sym f
  ]
]

module _ (seed mix_seed : ℕ) (mix : ℕ → ℕ) (texts : List (List ℕ)) (short : All IsShort texts) where
  text_at : (i : ℕ) → i < length texts → slot_at (map (λ t. Bytes t) texts) i ≡ Bytes (get_or texts i [])
  text_at i lt = get_or-map (λ t. Bytes t) texts i [] Nil lt

  pub short_same : (i j : ℕ) → i < length texts → j < length texts →
      same_slot_at (short_rows seed texts).slot i j ≡ same_slot_at (rows_of_slots w64 mix_seed mix (map (λ t. Bytes t) texts)).slot i j
  short_same i j lt lt' =
      let x = get_or texts i [] in
      let y = get_or texts j [] in
      same_test _ _ (Decides-slot_eq _ _) (Decides-slot_eq _ _)
      (λ e. text_at i lt ∙ ap (λ t. Bytes t) (key_tells seed x y (short i [] lt).valid (short j [] lt').valid (short i [] lt).few (slot_tells _ _ e)) ∙ sym (text_at j lt'))
      (λ e. let is : Bytes x ≡ Bytes y = sym (text_at i lt) ∙ e ∙ text_at j lt' in let same : x ≡ y = cc in ap (λ t. key_slot (key_of seed t)) same)
