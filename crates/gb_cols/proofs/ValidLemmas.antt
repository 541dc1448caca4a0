-- The first and the last valid place, of slots behind others.
use Rattle.std.proofs.Common.{◌≡◌, ℕ, ◌+◌, ◌-◌, ◌<◌, ◌≤◌, true, false, not, List, ◌++◌, length, refl, ◌∙◌, ap, arith, ⊎_elim, Option, Some, None, nat_lt, IfSome, MatchOption}
use Rattle.std.specs.List.{All, position, position_or_len}
use Rattle.std.proofs.lemmas.Bool.{cases_lt}
use Rattle.std.proofs.lemmas.Bool.Decides.{nat_tests}
use Rattle.std.proofs.lemmas.List.{get_or-append-add, get_or-append_right, get_or_append_left, length-append}
use Rattle.std.proofs.lemmas.List.Elements.{All-append, All-get_or}
use Rattle.std.proofs.lemmas.List.Sums.{position_or_len_is}
use Rattle.gb_defs.specs.Column.{IsLastValid, is_valid}
use Rattle.gb_defs.specs.Slot.{Slot, Nil, is_nil, slot_at}
use Rattle.gb_cols.specs.Column.{later_place}
use Rattle.gb_values.specs.Valid.{IsFirstValid, IsNull}

null_at : (slots : List Slot) (k : ℕ) → All IsNull slots → k < length slots → is_nil (slot_at slots k) ≡ true
null_at slots k nulls lt = All-get_or IsNull slots k Nil lt nulls

-- ---- the first

first_is : (slots : List Slot) (i : ℕ) → i < length slots → is_nil (slot_at slots i) ≡ false → ((k : ℕ) → k < i → is_nil (slot_at slots k) ≡ true) → position is_valid slots ≡ Some i
first_is slots i lt valid nulls =
    let at : position_or_len is_valid slots ≡ i = position_or_len_is is_valid slots i Nil (omega arith) (λ k h. ap not (nulls k h)) (λ h. ap not valid) in
    let inside : nat_lt i (length slots) ≡ true = grind (arith, nat_tests) in
    rw (at, inside) refl

pub first_none : (slots : List Slot) → All IsNull slots → position is_valid slots ≡ None
first_none slots nulls =
    let at : position_or_len is_valid slots ≡ length slots =
    position_or_len_is is_valid slots (length slots) Nil (omega arith) (λ k h. ap not (null_at slots k nulls h)) (λ h. absurd (omega arith)) in
    let past : nat_lt (length slots) (length slots) ≡ false = grind (arith, nat_tests) in
    rw (at, past) refl

module _ (front slots : List Slot) where
  -- a place behind those in front
  behind : (k : ℕ) → slot_at (front ++ slots) (length front + k) ≡ slot_at slots k
  behind k = get_or-append-add front slots k Nil

  before : (k : ℕ) → k < length front → slot_at (front ++ slots) k ≡ slot_at front k
  before k lt = get_or_append_left front slots Nil k lt

  past : (k : ℕ) → length front ≤ k → slot_at (front ++ slots) k ≡ slot_at slots (k - length front)
  past k le = get_or-append_right front slots (length front) k Nil refl le

  pub first_behind : (rest : List Slot) (place : ℕ) → All IsNull front → IsFirstValid slots place → position is_valid (front ++ (slots ++ rest)) ≡ Some (length front + place)
  first_behind rest place nulls first =
      first_is (front ++ (slots ++ rest)) (length front + place) (omega (arith, first.inside, length-append front (slots ++ rest), length-append slots rest))
      (ap is_nil (get_or-append-add front (slots ++ rest) place Nil ∙ get_or_append_left slots rest Nil place first.inside) ∙ first.valid)
      (λ k h.
      ⊎_elim (λ low. ap is_nil (get_or_append_left front (slots ++ rest) Nil k low) ∙ null_at front k nulls low)
      (λ high.
      let inner : k - length front < place = omega arith in
      ap is_nil (get_or-append_right front (slots ++ rest) (length front) k Nil refl high ∙ get_or_append_left slots rest Nil (k - length front) (omega (arith, first.inside)))
      ∙ first.earlier (k - length front) inner)
      (cases_lt k (length front)))

  -- ---- the last

  last_behind : (found place : Option ℕ) → MatchOption found (All IsNull front) (IsLastValid front) → MatchOption place (All IsNull slots) (IsLastValid slots) →
      MatchOption (later_place found (length front) place) (All IsNull (front ++ slots)) (IsLastValid (front ++ slots))
  last_behind None None fronts here = All-append IsNull front slots fronts here
  last_behind (Some q) None fronts here = record {
    inside = omega (arith, fronts.inside, length-append front slots);
    valid = ap is_nil (before q fronts.inside) ∙ fronts.valid;
    later =
        λ k up lt.
        ⊎_elim (λ low. ap is_nil (before k low) ∙ fronts.later k up low)
        (λ high. ap is_nil (past k high) ∙ null_at slots (k - length front) here (omega (arith, lt, length-append front slots)))
        (cases_lt k (length front));
  }
  last_behind found (Some p) fronts here = record {
    inside = omega (arith, here.inside, length-append front slots);
    valid = ap is_nil (behind p) ∙ here.valid;
    later =
        λ k up lt.
        ap is_nil (past k (omega arith)) ∙ here.later (k - length front) (omega arith) (omega (arith, lt, length-append front slots));
  }

  -- the last place of the slots so far, where it is known by front and back
  pub last_more : (all : List Slot) (found place result : Option ℕ) (count : ℕ) → count ≡ length front → all ≡ front ++ slots → result ≡ later_place found count place →
      MatchOption found (All IsNull front) (IsLastValid front) → MatchOption place (All IsNull slots) (IsLastValid slots) → MatchOption result (All IsNull all) (IsLastValid all)
  last_more all found place result count long is made fronts here = rw (made, long, is) (last_behind found place fronts here)

-- a place is below what the slots come to
pub last_fits : (slots : List Slot) (place : Option ℕ) (count limit : ℕ) → MatchOption place (All IsNull slots) (IsLastValid slots) → count + length slots ≤ limit → IfSome place (λ k. count + k < limit)
last_fits slots None count limit h le = tt
last_fits slots (Some p) count limit h le = omega (arith, h.inside, le)
