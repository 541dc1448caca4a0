-- The numbers of rows' groups, one row more.
use Rattle.std.proofs.Common.{◌≡◌, ◌∙◌, ℕ, suc, cond, ◌+◌, ◌<◌, Bool, true, false, inl, inr, List, [], ◌∷◌, ◌++◌, length, get_or, map, refl, sym, ap, ap₂, append-nil}
use Rattle.std.specs.Cmp.{IsEquivalence}
use Rattle.std.specs.List.{AllByRecursion, list_any}
use Rattle.std.specs.List.Sorted.{IsStrictlyIncreasing}
use Rattle.std.proofs.lemmas.Bool.{cases_Bool}
use Rattle.std.proofs.lemmas.List.{map-append}
use Rattle.gb_defs.specs.Classes.{firsts, rows_below}
use Rattle.gb_defs.proofs.ClassesLemmas.{firsts_push, map_agree_on, rows_below_all, rows_below_more}
use Rattle.gb_paths.specs.Numbering.{AreNumbersOf, number_in}
use Rattle.gb_paths.proofs.NumberingLemmas.{all_found, any_at, found_all, number_at, same_number}
use Rattle.gb_paths.proofs.PartLemmas.{range_rises}

module _ (agree : ℕ → ℕ → Bool) (equiv : IsEquivalence agree) where
  number_found : (first : List ℕ) (n row : ℕ) → list_any (agree row) first ≡ true → number_in agree (first ++ n ∷ []) row ≡ number_in agree first row
  number_found [] n row some = cc
  number_found (f ∷ fs) n row some = elim (cases_Bool (agree row f)) [
    | inl e ↦ rw e refl
    | inr e ↦ rw e (ap suc (number_found fs n row (rw e at some)))
  ]

  number_new : (first : List ℕ) (row : ℕ) → list_any (agree row) first ≡ false → number_in agree (first ++ row ∷ []) row ≡ length first
  number_new [] row none = rw (equiv.refl row) refl
  number_new (f ∷ fs) row none = elim (cases_Bool (agree row f)) [
    | inl e ↦ cc (rw e at none)
    | inr e ↦ rw e (ap suc (number_new fs row (rw e at none)))
  ]

  module _ (row : ℕ) (first numbers : List ℕ) (so_far : AreNumbersOf agree (rows_below row) first numbers) where
    up_to : IsStrictlyIncreasing (rows_below row)
    up_to = range_rises 0 row

    known : AllByRecursion (λ r. list_any (agree r) first ≡ true) (rows_below row)
    known = rw so_far.first_is (all_found agree equiv (rows_below row) up_to)

    -- a row that agrees with none before it begins a group
    pub next_new : list_any (agree row) (rows_below row) ≡ false → AreNumbersOf agree (rows_below (row + 1)) (first ++ row ∷ []) (numbers ++ length first ∷ [])
    next_new none =
        let none_first : list_any (agree row) first ≡ false = rw so_far.first_is (sym (found_all agree equiv (rows_below row) up_to row) ∙ none) in
        record {
          first_is = rw (rows_below_more row, firsts_push agree (rows_below row) row (rows_below_all row), none) (ap (λ xs. xs ++ row ∷ []) so_far.first_is);
          numbers_are = rw (rows_below_more row) (
              ap₂ (λ (xs ys : List ℕ). xs ++ ys)
              (so_far.numbers_are ∙ map_agree_on (number_in agree first) (number_in agree (first ++ row ∷ [])) (rows_below row) (same_all (rows_below row) known))
              (ap (λ k. k ∷ []) (sym (number_new first row none_first)))
              ∙ sym (map-append (number_in agree (first ++ row ∷ [])) (rows_below row) (row ∷ [])));
        }
      where
        same_all : (xs : List ℕ) → AllByRecursion (λ r. list_any (agree r) first ≡ true) xs → AllByRecursion (λ r. number_in agree first r ≡ number_in agree (first ++ row ∷ []) r) xs
        same_all [] h = tt
        same_all (x ∷ xs) h = (sym (number_found first row x h.0), same_all xs h.1)

    -- any other has the number of its group
    pub next_old : (number : ℕ) → number ≡ number_in agree first row → list_any (agree row) (rows_below row) ≡ true → AreNumbersOf agree (rows_below (row + 1)) first (numbers ++ number ∷ [])
    next_old number is some = record {
      first_is = so_far.first_is ∙ sym (rw (rows_below_more row, firsts_push agree (rows_below row) row (rows_below_all row), some) (append-nil (firsts agree (rows_below row))));
      numbers_are = rw (rows_below_more row, is) (
          ap (λ ns. ns ++ number_in agree first row ∷ []) so_far.numbers_are
          ∙ sym (map-append (number_in agree first) (rows_below row) (row ∷ [])));
    }

    -- which is that of the first row that it agrees with
    pub number_is : (k : ℕ) → k < length first → agree row (get_or first k 0) ≡ true → number_in agree first row ≡ k
    number_is k lt here =
        let is = so_far.first_is in
        same_number agree equiv row (get_or first k 0) here first
        ∙ ap (λ fs. number_in agree fs (get_or fs k 0)) is ∙ number_at agree equiv (rows_below row) up_to k (rw is at lt)

    pub some_before : (k : ℕ) → k < length first → agree row (get_or first k 0) ≡ true → list_any (agree row) (rows_below row) ≡ true
    some_before k lt here =
        found_all agree equiv (rows_below row) up_to row ∙ ap (list_any (agree row)) (sym so_far.first_is) ∙ any_at (agree row) first k 0 lt here
