-- A list in the order of its keys that keeps the order of equal keys is the only one.
use Rattle.std.proofs.Common.{◌≡◌, ℕ, zero, suc, ◌<◌, ◌≤◌, Bool, true, false, not, ◌&&◌, List, [], ◌∷◌, length, get_or, drop, filter, refl, sym, ◌∙◌, ap, arith, nat_cmp, is_lt, inl, inr}
use Rattle.std.proofs.lemmas.Bool.{cond-true, cond-false, cases_Bool}
use Rattle.std.proofs.lemmas.Bool.Decides.{nat_tests}
use Rattle.std.proofs.lemmas.List.Sorted.{IsNonDecreasingBy-from_sort}
use Rattle.std.specs.List.Sorted.{IsNonDecreasingBy}
use Rattle.gb_defs.specs.Groups.{first_of}
use Rattle.gb_groups.specs.Order.{OrderIsOne}

abbrev pub tied : ℕ → ℕ → Bool
tied a b = not (is_lt (nat_cmp a b)) && not (is_lt (nat_cmp b a))

tied_same : (a b : ℕ) → a ≡ b → tied a b ≡ true
tied_same a b same = grind (arith, nat_tests)

tied_below : (a b : ℕ) → a < b → tied a b ≡ false
tied_below a b lt = grind (arith, nat_tests)

below_or_not : (a b : ℕ) → (a < b → b ≤ a) → b ≤ a
below_or_not a b h = elim (cases_Bool (is_lt (nat_cmp a b))) [
  | inl lt ↦ h (grind (arith, nat_tests))
  | inr ge ↦ grind (arith, nat_tests)
]

module _ {X : Type 0} (n : X → ℕ) where
  none_below : (x : X) (ys : List X) → ((k : ℕ) (d : X) → k < length ys → n x < n (get_or ys k d)) → filter (λ y. tied (n x) (n y)) ys ≡ []
  none_below x [] above = refl
  none_below x (y ∷ ys) above =
      cond-false _ _ _ (tied_below (n x) (n y) (above zero x (omega arith))) ∙ none_below x ys (λ k d lt. above (suc k) d (omega (arith, lt)))

  some_here : (x : X) (ys : List X) → filter (λ y. tied (n x) (n y)) (x ∷ ys) ≡ x ∷ filter (λ y. tied (n x) (n y)) ys
  some_here x ys = cond-true _ _ _ (tied_same (n x) (n x) refl)

  least : (y z : X) (ys zs : List X) → IsNonDecreasingBy n (z ∷ zs) → filter (λ x. tied (n y) (n x)) (y ∷ ys) ≡ filter (λ x. tied (n y) (n x)) (z ∷ zs) → n z ≤ n y
  least y z ys zs ascend same = below_or_not (n y) (n z) (λ lt.
      let none = none_below y (z ∷ zs) (λ k d inside. let up = ascend zero k d (omega arith) inside in omega (arith, lt, up)) in
      let long = ap length (sym (some_here y ys) ∙ same ∙ none) in
      absurd (omega (arith, long)))

  pub once : (ys zs : List X) → IsNonDecreasingBy n ys → IsNonDecreasingBy n zs → ((x : X) → filter (λ y. tied (n x) (n y)) ys ≡ filter (λ y. tied (n x) (n y)) zs) → ys ≡ zs
  once [] [] up-ys up-zs same = refl
  once [] (z ∷ zs) up-ys up-zs same =
      let long = ap length (same z ∙ some_here z zs) in absurd (omega (arith, long))
  once (y ∷ ys) [] up-ys up-zs same =
      let long = ap length (sym (some_here y ys) ∙ same y) in absurd (omega (arith, long))
  once (y ∷ ys) (z ∷ zs) up-ys up-zs same =
      let low = least y z ys zs up-zs (same y) in
      let high = least z y zs ys up-ys (sym (same z)) in
      let equal : n y ≡ n z = omega (arith, low, high) in
      let heads : y ∷ filter (λ x. tied (n y) (n x)) ys ≡ z ∷ filter (λ x. tied (n y) (n x)) zs = sym (some_here y ys) ∙ same y ∙ cond-true _ _ _ (tied_same (n y) (n z) equal) in
      let head : y ≡ z = ap (λ l. get_or l zero y) heads in
      let tails : (x : X) → filter (λ a. tied (n x) (n a)) ys ≡ filter (λ a. tied (n x) (n a)) zs = λ x.
      elim (cases_Bool (tied (n x) (n y))) [
        | inl tie ↦ ap (drop 1) (sym (cond-true _ _ _ tie) ∙ same x ∙ cond-true _ _ _ (sym (ap (tied (n x)) equal) ∙ tie))
        | inr apart ↦ sym (cond-false _ _ _ apart) ∙ same x ∙ cond-false _ _ _ (sym (ap (tied (n x)) equal) ∙ apart)
      ] in
      ap (λ a. a ∷ ys) head ∙ ap (λ l. z ∷ l) (once ys zs (λ i j d le lt. up-ys (suc i) (suc j) d (omega (arith, le)) (omega (arith, lt))) (λ i j d le lt. up-zs (suc i) (suc j) d (omega (arith, le)) (omega (arith, lt))) tails)

-- only one list is `before` by its first rows
pub by_first_once : OrderIsOne
by_first_once before ys zs one other =
    once first_of ys zs (IsNonDecreasingBy-from_sort first_of ys one.sorted) (IsNonDecreasingBy-from_sort first_of zs other.sorted) (λ pair. one.stable pair ∙ sym (other.stable pair))
