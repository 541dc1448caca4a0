-- Rows that ascend below a number, and runs that end below it.
use Rattle.std.proofs.Common.{◌≡◌, ℕ, zero, suc, ◌+◌, ◌<◌, ◌≤◌, ◌↔◌, List, [], ◌∷◌, length, get_or, drop, refl, sym, arith, add-one}
use Rattle.std.specs.List.{range_with_len}
use Rattle.std.specs.List.Sorted.{IsStrictlyIncreasing}
use Rattle.std.proofs.lemmas.List.{drop_all, drop_more}
use Rattle.std.proofs.lemmas.List.Elements.{All-cons, All-head, All-nil, All-tail}
use Rattle.std.proofs.lemmas.List.FromFn.{get_or-range_with_len, length-range_with_len}
use Rattle.gb_defs.specs.Groups.{AreMembers, FitsRows}

-- ---- one row more in front

rise_more : (row next : ℕ) (later : List ℕ) → row < next → IsStrictlyIncreasing (next ∷ later) → IsStrictlyIncreasing (row ∷ next ∷ later)
rise_more row next later low rise zero lt = low
rise_more row next later low rise (suc k) lt = rw add-one (rw add-one at (rise k (omega (arith, lt))))

members_more : (n row next : ℕ) (later : List ℕ) → row < next → AreMembers n (next ∷ later) → AreMembers n (row ∷ next ∷ later)
members_more n row next later low members =
    let next_low : next < n = All-head (λ r. r < n) next later members.below in
    record {
      below = All-cons (λ r. r < n) row (next ∷ later) (omega (arith, low, next_low)) members.below;
      ascend = rise_more row next later low members.ascend;
    }

rise_less : (row next : ℕ) (later : List ℕ) → IsStrictlyIncreasing (row ∷ next ∷ later) → IsStrictlyIncreasing (next ∷ later)
rise_less row next later rise k lt = rw add-one (rw add-one at (rise (suc k) (omega (arith, lt))))

members_less : (n row next : ℕ) (later : List ℕ) → AreMembers n (row ∷ next ∷ later) → AreMembers n (next ∷ later)
members_less n row next later members = record {
  below = All-tail (λ r. r < n) row (next ∷ later) members.below;
  ascend = rise_less row next later members.ascend;
}

members_rise : (n row next : ℕ) (later : List ℕ) → AreMembers n (row ∷ next ∷ later) → row < next
members_rise n row next later members = members.ascend 0 (omega arith)

members_one : (n row : ℕ) → row < n → AreMembers n (row ∷ [])
members_one n row low = record {
  below = All-cons (λ r. r < n) row [] low (All-nil (λ r. r < n));
  ascend = λ k lt. absurd (omega (arith, lt));
}

-- ---- rows that are looked at one after another

module _ (n row : ℕ) (later : List ℕ) (i last : ℕ) (there : AreMembers n (row ∷ later) → AreMembers n (last ∷ drop i later)) (back : AreMembers n (last ∷ drop i later) → AreMembers n (row ∷ later)) where
  module _ (d : ℕ) (lt : i < length later) where
    pub rise_there : AreMembers n (row ∷ later) → AreMembers n (get_or later i d ∷ drop (i + 1) later)
    rise_there members = members_less n last (get_or later i d) (drop (i + 1) later) (rw (drop_more later i d lt) at (there members))

    pub rise_back : last < get_or later i d → AreMembers n (get_or later i d ∷ drop (i + 1) later) → AreMembers n (row ∷ later)
    rise_back low members = back (rw (drop_more later i d lt) (members_more n last (get_or later i d) (drop (i + 1) later) low members))

    pub no_rise : get_or later i d ≤ last → AreMembers n (row ∷ later) → ⊥
    no_rise high members =
        let h : last < get_or later i d = members_rise n last (get_or later i d) (drop (i + 1) later) (rw (drop_more later i d lt) at (there members)) in
        absurd (omega (arith, h, high))

  pub rise_end : length later ≤ i → AreMembers n (row ∷ later) ↔ (last < n)
  rise_end end =
      let none = drop_all i later end in
      (λ members. All-head (λ r. r < n) last [] (rw none at (there members)).below, λ low. back (rw none (members_one n last low)))

-- ---- a group

pub fits_none : (n first : ℕ) → FitsRows n (first, []) ↔ (first < n)
fits_none n first = (
  λ fits. fits.first,
  λ low. record { first = low; members = record { below = All-nil (λ r. r < n); ascend = λ k lt. absurd (omega (arith, lt)) }; head = tt },
)

pub fits_some : (n first row : ℕ) (later : List ℕ) → row ≡ first → FitsRows n (first, row ∷ later) ↔ AreMembers n (row ∷ later)
fits_some n first row later is = (
  λ fits. fits.members,
  λ members. record { first = rw (← is) (All-head (λ r. r < n) row later members.below); members = members; head = sym is },
)

pub fits_head : (n first row : ℕ) (later : List ℕ) → FitsRows n (first, row ∷ later) → first ≡ row
fits_head n first row later fits = fits.head

-- ---- a run

run_members : (n start len : ℕ) → start + len ≤ n → AreMembers n (range_with_len start len)
run_members n start len within = record {
  below = λ k d lt. rw (get_or-range_with_len start len k d (omega (arith, lt, length-range_with_len start len))) (omega (arith, lt, length-range_with_len start len));
  ascend = λ k lt.
      let next : k + 1 < len = omega (arith, lt, length-range_with_len start len) in
      rw (get_or-range_with_len start len k 0 (omega (arith, next)), get_or-range_with_len start len (k + 1) 0 next) (omega arith);
}

pub run_fits : (n start len : ℕ) → start < n → start + len ≤ n → FitsRows n (start, range_with_len start len)
run_fits n start zero low within = record { first = low; members = run_members n start zero within; head = tt }
run_fits n start (suc len) low within = record { first = low; members = run_members n start (suc len) within; head = refl }

pub run_within : (n start len : ℕ) → FitsRows n (start, range_with_len start len) → start + len ≤ n
run_within n start zero fits = omega (arith, fits.first)
run_within n start (suc len) fits =
    let last = fits.members.below len 0 (omega (arith, length-range_with_len start (suc len))) in
    omega (arith, rw (get_or-range_with_len start (suc len) len 0 (omega arith)) at last)
