-- What is made of the places of ranges that follow each other, joined.
use Rattle.std.proofs.Common.{◌≡◌, ℕ, suc, ◌+◌, ◌-◌, ◌*◌, ◌/◌, ◌<◌, ◌≤◌, inl, inr, ltb, List, [], ◌∷◌, ◌++◌, length, get_or, subst, arith, add-one, append-nil}
use Rattle.std.specs.List.{flat_map}
use Rattle.std.proofs.Math.Nat.{suc-mul, zero-mul}
use Rattle.std.proofs.lemmas.Bool.{cases_Bool, ltb-false, ltb-true}
use Rattle.std.proofs.lemmas.List.{get_or-append_right, get_or_append_left, length-append}
use Rattle.std.proofs.lemmas.List.Concat.{flat_map-cons}
use Rattle.gb_defs.specs.Flat.{range_at}
use Rattle.gb_flat.proofs.OffsetLemmas.{range_before_last, range_last, ranges_within}

module _ {X : Type 0} (P : ℕ → X → Type 0) where
  -- so many things, each of which holds at its place, the first at `start`
  pub record HoldFrom (start count : ℕ) (xs : List X) : Type 0 where
    pub long : length xs ≡ count
    pub each : (k : ℕ) (d : X) → k < count → P (start + k) (get_or xs k d)

  behind : (start n m : ℕ) (xs ys : List X) → HoldFrom start n xs → HoldFrom (start + n) m ys → HoldFrom start (n + m) (xs ++ ys)
  behind start n m xs ys front back = record {
    long = omega (arith, length-append xs ys, front.long, back.long);
    each = λ k d lt. elim (cases_Bool (ltb k n)) [
      | inl e ↦
          let low : k < n = ltb-true k n e in
          rw (get_or_append_left xs ys d k (omega (arith, low, front.long))) (front.each k d low)
      | inr e ↦
          let high : n ≤ k = ltb-false k n e in
          let place : start + n + (k - n) ≡ start + k = omega (arith, high) in
          rw (get_or-append_right xs ys n k d front.long high) (subst (λ (p : ℕ). P p (get_or ys (k - n) d)) place (back.each (k - n) d (omega (arith, lt, high))))
    ];
  }

  module _ {A : Type 0} (of : A → List X) (len m : ℕ) where
    abbrev each_len : ℕ
    each_len = len / m

    held_from : (k : ℕ) (made : List A) → k + length made ≡ m → 0 < length made →
        ((i : ℕ) (d : A) → i < length made → HoldFrom (range_at len m (k + i)).0 (range_at len m (k + i)).1 (of (get_or made i d))) →
        HoldFrom (k * each_len) (len - k * each_len) (flat_map of made)
    held_from k [] all some each = absurd (omega arith)
    held_from k (a ∷ []) all some each =
        let here : k + 0 ≡ k = omega arith in
        let is : range_at len m (k + 0) ≡ (k * each_len, len - k * each_len) = rw here (range_last len m k (omega arith)) in
        rw (flat_map-cons of a [], append-nil (of a)) (subst (λ (r : ℕ × ℕ). HoldFrom r.0 r.1 (of a)) is (each 0 a (omega arith)))
    held_from k (a ∷ b ∷ made) all some each =
        let here : k + 0 ≡ k = omega arith in
        let is : range_at len m (k + 0) ≡ (k * each_len, each_len) = rw here (range_before_last len m k (omega arith)) in
        let next : (k + 1) * each_len ≡ k * each_len + each_len = rw add-one (suc-mul k each_len) in
        let within = ranges_within len m (k + 1) (omega arith) (omega arith) in
        let first = subst (λ (r : ℕ × ℕ). HoldFrom r.0 r.1 (of a)) is (each 0 a (omega arith)) in
        let rest = held_from (k + 1) (b ∷ made) (omega (arith, all)) (omega arith) (λ i d lt.
        let at : k + suc i ≡ k + 1 + i = omega arith in
        rw (← at) (each (suc i) d (omega (arith, lt)))) in
        let later = subst (λ (s : ℕ). HoldFrom s (len - s) (flat_map of (b ∷ made))) next rest in
        let count : each_len + (len - (k * each_len + each_len)) ≡ len - k * each_len = omega (arith, within, next) in
        rw (flat_map-cons of a (b ∷ made)) (subst (λ (n : ℕ). HoldFrom (k * each_len) n (of a ++ flat_map of (b ∷ made))) count (behind (k * each_len) each_len (len - (k * each_len + each_len)) (of a) (flat_map of (b ∷ made)) first later))

    pub held_joined : (made : List A) → 1 ≤ m → length made ≡ m → ((k : ℕ) (d : A) → k < m → HoldFrom (range_at len m k).0 (range_at len m k).1 (of (get_or made k d))) → HoldFrom 0 len (flat_map of made)
    held_joined made some long each =
        let all = held_from 0 made (omega (arith, long)) (omega (arith, long, some)) (λ i d lt.
        let at : 0 + i ≡ i = omega arith in
        rw at (each i d (omega (arith, lt, long)))) in
        let none : 0 * each_len ≡ 0 = zero-mul each_len in
        let whole : len - 0 * each_len ≡ len = omega (arith, none) in
        subst (λ (n : ℕ). HoldFrom 0 n (flat_map of made)) whole (subst (λ (s : ℕ). HoldFrom s (len - 0 * each_len) (flat_map of made)) none all)
