-- Runs of rows that fit.
use Rattle.std.proofs.Common.{◌≡◌, ℕ, zero, suc, ◌+◌, ◌<◌, ◌≤◌, ◌^◌, List, [], ◌∷◌, length, get_or, drop, map, refl, ap, arith}
use Rattle.std.specs.List.{AllByRecursion}
use Rattle.std.specs.List.Sorted.{IsNonDecreasing}
use Rattle.std.proofs.lemmas.List.{drop_all, drop_more, length-map}
use Rattle.std.proofs.lemmas.List.Elements.{All-from_recursion, recursion_from_All}
use Rattle.gb_groups.specs.Slices.{SlicesFit, length_of, slice_pairs, start_of}
use Rattle.gb_defs.specs.Groups.{first_of}

abbrev Ends : List ℕ → Type 0
Ends slice = start_of slice + length_of slice < 2 ^ 32

-- the runs fit, and none starts below a row
abbrev pub RisesFrom : ℕ → List (List ℕ) → Type 0
RisesFrom least [] = Unit {0}
RisesFrom least (slice ∷ slices) = (least ≤ start_of slice) × Ends slice × RisesFrom (start_of slice) slices

rises_above : (least : ℕ) (slices : List (List ℕ)) → RisesFrom least slices → (i d : ℕ) → i < length slices → least ≤ get_or (map start_of slices) i d
rises_above least [] h i d lt = absurd (omega arith)
rises_above least (slice ∷ slices) h zero d lt = h.0
rises_above least (slice ∷ slices) h (suc i) d lt = let above = rises_above (start_of slice) slices h.2 i d (omega arith) in omega (arith, above, h.0)

rises_ascend : (least : ℕ) (slices : List (List ℕ)) → RisesFrom least slices → IsNonDecreasing (map start_of slices)
rises_ascend least [] h i j d le lt = absurd (omega arith)
rises_ascend least (slice ∷ slices) h zero zero d le lt = omega arith
rises_ascend least (slice ∷ slices) h zero (suc j) d le lt = rises_above (start_of slice) slices h.2 j d (omega (arith, lt, length-map slices start_of))
rises_ascend least (slice ∷ slices) h (suc i) zero d le lt = absurd (omega arith)
rises_ascend least (slice ∷ slices) h (suc i) (suc j) d le lt = rises_ascend (start_of slice) slices h.2 i j d (omega arith) (omega (arith, lt))

rises_end : (least : ℕ) (slices : List (List ℕ)) → RisesFrom least slices → AllByRecursion Ends slices
rises_end least [] h = tt
rises_end least (slice ∷ slices) h = (h.1, rises_end (start_of slice) slices h.2)

pub rises_fit : (slices : List (List ℕ)) → RisesFrom 0 slices → SlicesFit slices
rises_fit slices h = record { ends = All-from_recursion Ends slices (rises_end 0 slices h); ascend = rises_ascend 0 slices h }

fit_from : (least : ℕ) (slices : List (List ℕ)) → ((d : ℕ) → 0 < length slices → least ≤ get_or (map start_of slices) 0 d) → AllByRecursion Ends slices → IsNonDecreasing (map start_of slices) → RisesFrom least slices
fit_from least [] low ends ascend = tt
fit_from least (slice ∷ slices) low ends ascend = (
  low 0 (omega arith),
  ends.0,
  fit_from (start_of slice) slices
      (λ d lt. ascend 0 1 d (omega arith) (omega (arith, lt, length-map slices start_of))) ends.1
      (λ i j d le lt. ascend (suc i) (suc j) d (omega (arith, le)) (omega (arith, lt))),
)

pub fit_rises : (slices : List (List ℕ)) → SlicesFit slices → RisesFrom 0 slices
fit_rises slices fit = fit_from 0 slices (λ d lt. omega arith) (recursion_from_All Ends slices fit.ends) fit.ascend

-- ---- the runs from a place on

module _ (slices : List (List ℕ)) (i least : ℕ) (there : SlicesFit slices → RisesFrom least (drop i slices)) (back : RisesFrom least (drop i slices) → SlicesFit slices) where
  module _ (d : List ℕ) (lt : i < length slices) where
    pub there_more : SlicesFit slices → RisesFrom (start_of (get_or slices i d)) (drop (i + 1) slices)
    there_more fit = (rw (drop_more slices i d lt) at (there fit)).2

    pub back_more : least ≤ start_of (get_or slices i d) → Ends (get_or slices i d) → RisesFrom (start_of (get_or slices i d)) (drop (i + 1) slices) → SlicesFit slices
    back_more low end rest = back (rw (drop_more slices i d lt) (low, end, rest))

    pub none_low : start_of (get_or slices i d) < least → SlicesFit slices → ⊥
    none_low low fit = let h = (rw (drop_more slices i d lt) at (there fit)).0 in absurd (omega (arith, h, low))

    pub none_long : 2 ^ 32 ≤ start_of (get_or slices i d) + length_of (get_or slices i d) → SlicesFit slices → ⊥
    none_long long fit = let h = (rw (drop_more slices i d lt) at (there fit)).1 in absurd (omega (arith, h, long))

  pub all_fit : length slices ≤ i → SlicesFit slices
  all_fit end = back (rw (drop_all i slices end) tt)

-- ---- as groups

pub firsts_are : (slices : List (List ℕ)) → map first_of (slice_pairs slices) ≡ map start_of slices
firsts_are [] = refl
firsts_are (slice ∷ slices) = ap (λ firsts. start_of slice ∷ firsts) (firsts_are slices)

pub slices_ascend : (slices : List (List ℕ)) → SlicesFit slices → IsNonDecreasing (map first_of (slice_pairs slices))
slices_ascend slices fit = rw (firsts_are slices) fit.ascend
