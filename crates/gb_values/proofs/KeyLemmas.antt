-- The keys of slots, one more or some more.
use Rattle.std.proofs.Common.{◌≡◌, ℕ, ◌+◌, ◌<◌, List, [], ◌∷◌, ◌++◌, length, map, take, refl, sym, ◌∙◌, ap, subst, Option}
use Rattle.std.specs.List.{All}
use Rattle.std.proofs.lemmas.List.Elements.{All-append, All-cons, All-nil}
use Rattle.std.proofs.lemmas.List.{append_assoc, map_more, take_more}
use Rattle.gb_defs.specs.Slot.{Slot, Nil, Num, Bytes, Items, slot_at}
use Rattle.gb_values.specs.Keys.{key_slot, wide_key, wide_slot, word_key, word_slot}

pub words_are : (slots : List Slot) → map key_slot (map word_key slots) ≡ map word_slot slots
words_are [] = refl
words_are (Nil ∷ slots) = ap (λ ss. Nil ∷ ss) (words_are slots)
words_are (Num n ∷ slots) = ap (λ ss. word_slot (Num n) ∷ ss) (words_are slots)
words_are (Bytes bytes ∷ slots) = ap (λ ss. Nil ∷ ss) (words_are slots)
words_are (Items parts ∷ slots) = ap (λ ss. Nil ∷ ss) (words_are slots)

pub wide_are : (slots : List Slot) → map key_slot (map wide_key slots) ≡ map wide_slot slots
wide_are [] = refl
wide_are (Nil ∷ slots) = ap (λ ss. Nil ∷ ss) (wide_are slots)
wide_are (Num n ∷ slots) = ap (λ ss. wide_slot (Num n) ∷ ss) (wide_are slots)
wide_are (Bytes bytes ∷ slots) = ap (λ ss. Nil ∷ ss) (wide_are slots)
wide_are (Items parts ∷ slots) = ap (λ ss. Nil ∷ ss) (wide_are slots)

-- ---- one slot more

module _ (slots : List Slot) (i : ℕ) (lt : i < length slots) where
  pub key_more : (key : Slot → Option ℕ) (before keys grown : List (Option ℕ)) (k : Option ℕ) → keys ≡ before ++ map key (take i slots) → grown ≡ keys ++ k ∷ [] → k ≡ key (slot_at slots i) →
      grown ≡ before ++ map key (take (i + 1) slots)
  key_more key before keys grown k so_far e read =
      e ∙ ap (λ ks. ks ++ k ∷ []) so_far ∙ append_assoc before (map key (take i slots)) (k ∷ [])
      ∙ ap (λ last. before ++ (map key (take i slots) ++ last ∷ [])) read ∙ ap (λ ks. before ++ ks) (sym (map_more key slots i Nil lt))

  pub told_more : (P : Slot → Type 0) → All P (take i slots) → P (slot_at slots i) → All P (take (i + 1) slots)
  told_more P front here =
      subst (λ (ss : List Slot). All P ss) (sym (take_more slots i Nil lt)) (All-append P (take i slots) (slot_at slots i ∷ []) front (All-cons P (slot_at slots i) [] here (All-nil P)))
