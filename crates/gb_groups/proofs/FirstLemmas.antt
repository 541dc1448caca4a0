-- Groups that are put in the order of their first rows are the groups of all rows.
use Rattle.std.proofs.Common.{◌≡◌, ◌∙◌, ℕ, ◌<◌, Bool, true, inl, inr, List, [], ◌∷◌, length, map, filter, refl, sym, ap, arith}
use Rattle.std.specs.List.Sorted.{IsNonDecreasing, IsNonDecreasingBy}
use Rattle.std.proofs.lemmas.Bool.{cases_Bool}
use Rattle.std.proofs.lemmas.Bool.Decides.{nat_tests}
use Rattle.std.proofs.lemmas.List.{get_or-map, length-map}
use Rattle.std.proofs.lemmas.List.Sorted.{IsNonDecreasingBy-from_sort}
use Rattle.gb_defs.specs.Classes.{class, firsts, groups, rows_below}
use Rattle.gb_defs.specs.Groups.{Grouping, Idx, first_of, idx_groups}
use Rattle.gb_defs.proofs.ClassesLemmas.{firsts_ascend}
use Rattle.gb_groups.specs.Order.{IsByFirst}
use Rattle.gb_groups.proofs.OnceLemmas.{once, tied}

pub tied_one : (k x : ℕ) → tied k x ≡ true → x ≡ k
tied_one k x e = grind (arith, nat_tests)

-- rows with what is made of each
abbrev pub with_rows : (ℕ → List ℕ) → ℕ → ℕ × List ℕ
with_rows f i = (i, f i)

module _ (f : ℕ → List ℕ) where
  tied_pairs : (k : ℕ) (xs : List ℕ) → filter (λ y. tied k (first_of y)) (map (with_rows f) xs) ≡ map (with_rows f) (filter (tied k) xs)
  tied_pairs k [] = refl
  tied_pairs k (x ∷ xs) = elim (cases_Bool (tied k x)) [ inl e ↦ rw (e, tied_pairs k xs) | inr e ↦ rw (e, tied_pairs k xs) ]

  pairs_ascend : (xs : List ℕ) → IsNonDecreasing xs → IsNonDecreasingBy first_of (map (with_rows f) xs)
  pairs_ascend xs up i j d le lt =
      let inside : j < length xs = omega (arith, lt, length-map xs (with_rows f)) in
      let low : i < length xs = omega (arith, le, inside) in
      rw (get_or-map (with_rows f) xs i 0 d low, get_or-map (with_rows f) xs j 0 d inside) (up i j 0 le inside)

-- first rows in some order, each as often as among all
module _ (agree : ℕ → ℕ → Bool) (count : ℕ) (order : List ℕ) (picked : (k : ℕ) → filter (tied k) order ≡ filter (tied k) (firsts agree (rows_below count))) where
  abbrev one : ℕ → ℕ × List ℕ
  one = with_rows (class agree (rows_below count))

  put_by_first : (after : List (ℕ × List ℕ)) → IsByFirst (map one order) after → after ≡ groups agree (rows_below count)
  unfolding groups
  put_by_first after sorted =
      let first = firsts agree (rows_below count) in
      let rows = class agree (rows_below count) in
      once first_of after (map one first) (IsNonDecreasingBy-from_sort first_of after sorted.sorted) (pairs_ascend rows first (firsts_ascend agree count)) (λ pair.
      sorted.stable pair ∙ tied_pairs rows pair.0 order ∙ ap (map one) (picked pair.0) ∙ sym (tied_pairs rows pair.0 first))

  pub grouped_by_first : (flag : Bool) (before after : Grouping) → before ≡ idx_groups (map one order) flag → IsByFirst before.pairs after.pairs → after.flagged ≡ true → after.form ≡ before.form →
      after ≡ idx_groups (groups agree (rows_below count)) true
  grouped_by_first flag before after made sorted flagged form =
      let pairs = put_by_first after.pairs (rw (ap (λ g. g.pairs) made) at sorted) in
      let form_is : after.form ≡ Idx = form ∙ ap (λ g. g.form) made in
      ap (λ ps. record { pairs = ps; form = after.form; flagged = after.flagged }) pairs
      ∙ ap (λ f. record { pairs = groups agree (rows_below count); form = f; flagged = after.flagged }) form_is
      ∙ ap (λ b. record { pairs = groups agree (rows_below count); form = Idx; flagged = b }) flagged
