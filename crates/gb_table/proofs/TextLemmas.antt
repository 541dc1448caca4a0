-- Lists of texts that differ, and where a text stands among them.
use Rattle.std.proofs.Common.{◌≡◌, ℕ, ◌+◌, ◌<◌, Bool, true, false, cond, ◌||◌, List, [], ◌∷◌, ◌++◌, length, get_or, position, None, Some, refl, sym, ap, ◌∙◌, arith, true≢false, inl, inr, nat_lt}
use Rattle.std.specs.Str.{bytes_eq}
use Rattle.std.specs.List.{IsDistinct, list_any, position_from, position_or_len}
use Rattle.std.specs.Cmp.Lexicographic.{bytes_decides}
use Rattle.std.proofs.lemmas.Bool.{cases_Bool, false_from_ne_true}
use Rattle.std.proofs.lemmas.Bool.Decides.{nat_tests}
use Rattle.std.proofs.lemmas.Iterator.Adapters.{position_from-zero}
use Rattle.std.proofs.lemmas.List.Sums.{position_or_len_is}
use Rattle.std.proofs.lemmas.Map.Made.{AllPairs-from_IsDistinct}

module _ {X : Type 0} (p : X → Bool) where
  from_some : (i : ℕ) (xs : List X) (k : ℕ) → position_from p i xs ≡ Some k → list_any p xs ≡ true
  from_some i [] k h = cc
  from_some i (x ∷ xs) k h = elim (cases_Bool (p x)) [
    | inl e ↦ rw e refl
    | inr e ↦ rw e (from_some (i + 1) xs k (sym (ap (λ b. cond b (Some i) (position_from p (i + 1) xs)) e) ∙ h))
  ]

  from_missed : (i : ℕ) (xs : List X) → list_any p xs ≡ false → position_from p i xs ≡ None
  from_missed i [] none = refl
  from_missed i (x ∷ xs) none = elim (cases_Bool (p x)) [
    | inl e ↦ absurd (true≢false (sym (ap (λ b. b || list_any p xs) e) ∙ none))
    | inr e ↦ rw e (from_missed (i + 1) xs (sym (ap (λ b. b || list_any p xs) e) ∙ none))
  ]

  from_pushed : (i : ℕ) (xs : List X) (x : X) → list_any p xs ≡ false → p x ≡ true → position_from p i (xs ++ x ∷ []) ≡ Some (i + length xs)
  from_pushed i [] x none here = rw here (ap (λ n. Some n) (omega arith))
  from_pushed i (y ∷ xs) x none here = elim (cases_Bool (p y)) [
    | inl e ↦ absurd (true≢false (sym (ap (λ b. b || list_any p xs) e) ∙ none))
    | inr e ↦ rw e (from_pushed (i + 1) xs x (sym (ap (λ b. b || list_any p xs) e) ∙ none) here ∙ ap (λ n. Some n) (omega arith))
  ]

  -- a place that was found
  pub found_any : (xs : List X) (k : ℕ) → position p xs ≡ Some k → list_any p xs ≡ true
  found_any xs k h = from_some 0 xs k (sym (position_from-zero p xs) ∙ h)

  pub missed : (xs : List X) → list_any p xs ≡ false → position p xs ≡ None
  missed xs none = position_from-zero p xs ∙ from_missed 0 xs none

  -- what comes last behind others that fail
  pub position_pushed : (xs : List X) (x : X) → list_any p xs ≡ false → p x ≡ true → position p (xs ++ x ∷ []) ≡ Some (length xs)
  position_pushed xs x none here = position_from-zero p (xs ++ x ∷ []) ∙ from_pushed 0 xs x none here ∙ ap (λ n. Some n) (omega arith)

-- a place is that of a text where the text stands there, and the texts differ
pub found_at : (texts : List (List ℕ)) (text : List ℕ) (k : ℕ) → IsDistinct bytes_eq texts → k < length texts → get_or texts k [] ≡ text → position (bytes_eq text) texts ≡ Some k
found_at texts text k differ lt here =
    let apart = AllPairs-from_IsDistinct bytes_decides texts differ in
    let at : position_or_len (bytes_eq text) texts ≡ k =
    position_or_len_is (bytes_eq text) texts k [] (omega arith)
    (λ j low. false_from_ne_true _ (λ same. apart j k [] low lt (sym ((bytes_decides text (get_or texts j [])).0 same) ∙ sym here)))
    (λ _. (bytes_decides text (get_or texts k [])).1 (sym here)) in
    let inside : nat_lt k (length texts) ≡ true = grind (arith, nat_tests) in
    rw (at, inside) refl
