-- Numbers of places are numbers of the rows that stand there.
use Rattle.std.proofs.Common.{◌≡◌, ℕ, suc, cond, ◌<◌, ◌≤◌, Bool, not, ◌&&◌, ◌||◌, inl, inr, List, [], ◌∷◌, length, get_or, map, filter, nat_lt, All, refl, sym, ◌∙◌, ap, ap₂, arith}
use Rattle.std.specs.List.{list_any}
use Rattle.std.specs.List.Sorted.{IsNonDecreasing, IsStrictlyIncreasing}
use Rattle.std.proofs.lemmas.Bool.{cases_Bool, cases_lt, le-ltb, lt-ltb}
use Rattle.std.proofs.lemmas.List.{get_or-map, length-map, map-id}
use Rattle.std.proofs.lemmas.List.Kept.{AllPairs-from_increasing}
use Rattle.gb_defs.specs.Classes.{firsts, is_first, rows_below}
use Rattle.gb_defs.proofs.ClassesLemmas.{all_from_below, any_agree_on, filter_agree_on, rows_below_all}
use Rattle.gb_paths.specs.Numbering.{AreNumbersOf, number_in}
use Rattle.gb_paths.proofs.NumberingLemmas.{map_places}

any_mapped : (t : ℕ → Bool) (f : ℕ → ℕ) (xs : List ℕ) → list_any t (map f xs) ≡ list_any (λ x. t (f x)) xs
any_mapped t f [] = refl
any_mapped t f (x ∷ xs) = ap (λ b. t (f x) || b) (any_mapped t f xs)

filter_mapped : (t : ℕ → Bool) (f : ℕ → ℕ) (xs : List ℕ) → filter t (map f xs) ≡ map f (filter (λ x. t (f x)) xs)
filter_mapped t f [] = refl
filter_mapped t f (x ∷ xs) = elim (cases_Bool (t (f x))) [
  | inl e ↦ rw e (ap (λ ys. f x ∷ ys) (filter_mapped t f xs))
  | inr e ↦ rw e (filter_mapped t f xs)
]

module _ (agree : ℕ → ℕ → Bool) (members : List ℕ) (up : IsStrictlyIncreasing members) where
  abbrev pub row_at : ℕ → ℕ
  row_at place = get_or members place 0

  abbrev pub agree_at : ℕ → ℕ → Bool
  agree_at place other = agree (row_at place) (row_at other)

  abbrev places : List ℕ
  places = rows_below (length members)

  rows_are : map row_at places ≡ members
  rows_are = map_places (λ x. x) members ∙ map-id members

  pub not_above : (a b : ℕ) → a ≤ b → b < length members → row_at a ≤ row_at b
  not_above a b le inside = elim (cases_lt a b) [
    | inl less ↦ let is = AllPairs-from_increasing members up a b 0 less inside in omega (arith, is)
    | inr more ↦ let is : a ≡ b = omega (arith, le, more) in rw is (omega arith)
  ]

  same_order : (p q : ℕ) → p < length members → q < length members → nat_lt (row_at q) (row_at p) ≡ nat_lt q p
  same_order p q lt lt' = elim (cases_lt q p) [
    | inl less ↦ lt-ltb _ _ (AllPairs-from_increasing members up q p 0 less lt) ∙ sym (lt-ltb q p less)
    | inr more ↦ le-ltb _ _ (not_above p q more lt') ∙ sym (le-ltb q p more)
  ]

  first_same : (p : ℕ) → p < length members → is_first agree members (row_at p) ≡ is_first agree_at places p
  unfolding is_first
  first_same p lt =
      ap not (
      ap (list_any (λ j. nat_lt j (row_at p) && agree (row_at p) j)) (sym rows_are)
      ∙ any_mapped (λ j. nat_lt j (row_at p) && agree (row_at p) j) row_at places
      ∙ any_agree_on (λ q. nat_lt (row_at q) (row_at p) && agree (row_at p) (row_at q)) (λ q. nat_lt q p && agree_at p q) places
      (all_from_below (λ q. (nat_lt (row_at q) (row_at p) && agree (row_at p) (row_at q)) ≡ (nat_lt q p && agree_at p q)) (length members)
      (λ q lt'. ap (λ b. b && agree_at p q) (same_order p q lt lt')) places (rows_below_all (length members))))

  firsts_same : firsts agree members ≡ map row_at (firsts agree_at places)
  unfolding firsts
  firsts_same =
      ap (filter (is_first agree members)) (sym rows_are)
      ∙ filter_mapped (is_first agree members) row_at places
      ∙ ap (map row_at) (filter_agree_on (λ p. is_first agree members (row_at p)) (is_first agree_at places) places
      (all_from_below (λ p. is_first agree members (row_at p) ≡ is_first agree_at places p) (length members) first_same places (rows_below_all (length members))))

  number_same : (fs : List ℕ) (p : ℕ) → number_in agree (map row_at fs) (row_at p) ≡ number_in agree_at fs p
  number_same [] p = refl
  number_same (f ∷ fs) p = ap (λ k. cond (agree_at p f) 0 (suc k)) (number_same fs p)

  numbers_same : (fs : List ℕ) (ps : List ℕ) → map (number_in agree_at fs) ps ≡ map (number_in agree (map row_at fs)) (map row_at ps)
  numbers_same fs [] = refl
  numbers_same fs (p ∷ ps) = ap₂ (λ (k : ℕ) ks. k ∷ ks) (sym (number_same fs p)) (numbers_same fs ps)

  pub places_numbered : (first numbers : List ℕ) → AreNumbersOf agree_at places first numbers → AreNumbersOf agree members (map row_at first) numbers
  places_numbered first numbers are = record {
    first_is = ap (map row_at) are.first_is ∙ sym firsts_same;
    numbers_are = are.numbers_are ∙ numbers_same first places ∙ ap (map (number_in agree (map row_at first))) rows_are;
  }

  pub rows_ascend : (first : List ℕ) → IsNonDecreasing first → All (λ place. place < length members) first → IsNonDecreasing (map row_at first)
  rows_ascend first rise inside i j d lt within =
      let long = length-map first row_at in
      let front : i < length first = omega (arith, lt, within, long) in
      let back : j < length first = omega (arith, within, long) in
      rw (get_or-map row_at first i 0 d front, get_or-map row_at first j 0 d back) (not_above (get_or first i 0) (get_or first j 0) (rise i j 0 lt back) (inside j 0 back))
