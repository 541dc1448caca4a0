-- Ranges that are dealt to workers, one after another.
use Rattle.std.proofs.Common.{◌≡◌, ◌∙◌, ℕ, suc, ◌+◌, ◌-◌, ◌*◌, ◌/◌, ◌<◌, ◌≤◌, ◌==◌, inl, inr, List, [], ◌∷◌, ◌++◌, length, map, take, drop, slice_index_or, get_or, sym, ap, ap₂, add-one, zero-add, arith, Result, Ok, Err, IfErr, refl}
use Rattle.std.specs.List.{flat_map}
use Rattle.std.proofs.lemmas.Bool.{cases_Bool}
use Rattle.std.proofs.Math.Nat.{suc-mul, zero-mul}
use Rattle.std.proofs.lemmas.List.{append-nil, drop-drop, length-drop, map-append, take_all, take-append-drop}
use Rattle.std.proofs.lemmas.List.Concat.{flat_map-cons}
use Rattle.std.proofs.lemmas.List.FromFn.{get_or-map-range_with_len, length-map-range_with_len}
use Rattle.gb_defs.specs.Flat.{range_at, ranges_of}
use Rattle.gb_flat.proofs.OffsetLemmas.{range_before_last, range_last, ranges_within}

pub ranges_count : (n m : ℕ) → length (ranges_of n m) ≡ m
ranges_count n m = length-map-range_with_len (range_at n m) 0 m

pub range_read : (n m : ℕ) (ranges : List (ℕ × ℕ)) → ranges ≡ ranges_of n m → (k : ℕ) (x : ℕ × ℕ) → k < m → x ≡ slice_index_or ranges k x → range_at n m k ≡ x
range_read n m ranges all k x lt at = sym (at ∙ ap (λ rs. get_or rs k x) all ∙ get_or-map-range_with_len (range_at n m) 0 m k k x lt (omega arith))

pub range_inside : (n m k : ℕ) → k < m → (range_at n m k).0 + (range_at n m k).1 ≤ n
range_inside n m k lt =
    let low = ranges_within n m k (omega arith) (omega arith) in
    let high = ranges_within n m (k + 1) (omega arith) (omega arith) in
    let more : (k + 1) * (n / m) ≡ k * (n / m) + n / m = rw add-one (suc-mul k (n / m)) in
    elim (cases_Bool (k + 1 == m)) [
      | inl e ↦ rw e (omega (arith, low))
      | inr e ↦ rw e (omega (arith, high, more))
    ]

-- what holds of each error that the result may be holds of its error
pub err_of : {X E : Type 0} {P : E → Type 0} (r : Result X E) → ((e : E) → r ≡ Err e → P e) → IfErr r P
err_of (Ok x) h = tt
err_of (Err e) h = h e refl

-- ---- what is made of each range, one after another

module _ {A X Y : Type 0} (h : A → List Y) (f : X → Y) (xs : List X) (m : ℕ) where
  abbrev each_len : ℕ
  each_len = length xs / m

  joined_from : (k : ℕ) (made : List A) → k + length made ≡ m → 0 < length made →
      ((i : ℕ) (d : A) → i < length made → h (get_or made i d) ≡ map f (take (range_at (length xs) m (k + i)).1 (drop (range_at (length xs) m (k + i)).0 xs))) →
      flat_map h made ≡ map f (drop (k * each_len) xs)
  joined_from k [] all some each = absurd (omega arith)
  joined_from k (a ∷ []) all some each =
      let here : k + 0 ≡ k = omega arith in
      let is : range_at (length xs) m (k + 0) ≡ (k * each_len, length xs - k * each_len) = rw here (range_last (length xs) m k (omega arith)) in
      let left = length-drop (k * each_len) xs in
      let whole : take (length xs - k * each_len) (drop (k * each_len) xs) ≡ drop (k * each_len) xs = take_all (length xs - k * each_len) (drop (k * each_len) xs) (omega (arith, left)) in
      flat_map-cons h a [] ∙ append-nil (h a) ∙ each 0 a (omega arith) ∙ ap (λ (r : ℕ × ℕ). map f (take r.1 (drop r.0 xs))) is ∙ ap (map f) whole
  joined_from k (a ∷ b ∷ made) all some each =
      let here : k + 0 ≡ k = omega arith in
      let is : range_at (length xs) m (k + 0) ≡ (k * each_len, each_len) = rw here (range_before_last (length xs) m k (omega arith)) in
      let next : (k + 1) * each_len ≡ k * each_len + each_len = rw add-one (suc-mul k each_len) in
      let rest = joined_from (k + 1) (b ∷ made) (omega (arith, all)) (omega arith) (λ i d lt.
      let at : k + suc i ≡ k + 1 + i = omega arith in
      rw (← at) (each (suc i) d (omega (arith, lt)))) in
      flat_map-cons h a (b ∷ made)
      ∙ ap₂ (λ ys zs. ys ++ zs) (each 0 a (omega arith) ∙ ap (λ (r : ℕ × ℕ). map f (take r.1 (drop r.0 xs))) is) (rest ∙ ap (λ s. map f (drop s xs)) next ∙ ap (map f) (sym (drop-drop each_len (k * each_len) xs)))
      ∙ sym (map-append f (take each_len (drop (k * each_len) xs)) (drop each_len (drop (k * each_len) xs)))
      ∙ ap (map f) (take-append-drop each_len (drop (k * each_len) xs))

  pub shares_joined : (made : List A) → 1 ≤ m → length made ≡ m →
      ((k : ℕ) (d : A) → k < m → h (get_or made k d) ≡ map f (take (range_at (length xs) m k).1 (drop (range_at (length xs) m k).0 xs))) → flat_map h made ≡ map f xs
  shares_joined made some long each =
      joined_from 0 made (omega (arith, long)) (omega (arith, long, some)) (λ i d lt. rw zero-add (each i d (omega (arith, lt, long))))
      ∙ ap (λ s. map f (drop s xs)) (zero-mul each_len)
