-- Items in the order of their first rows, seen as groups.
use Rattle.std.proofs.Common.{◌≡◌, ℕ, ◌+◌, ◌<◌, ◌≤◌, Bool, true, false, cond, List, [], ◌∷◌, length, get_or, map, zip, filter, refl, sym, ◌∙◌, ap, arith, nat_cmp, is_lt}
use Rattle.std.proofs.lemmas.Bool.Decides.{nat_tests}
use Rattle.std.proofs.lemmas.List.{length-map, get_or-map}
use Rattle.std.proofs.lemmas.List.Sorted.{IsPermutation-refl, IsPermutation-map, IsNonDecreasingBy-from_sort, length_permutation}
use Rattle.std.proofs.lemmas.Slice.Zip.{length-zip, get_or-zip}
use Rattle.std.specs.List.Sorted.{IsPermutation, IsSortedByKey, IsStableByKey, IsNonDecreasing, ties}
use Rattle.smallvec.specs.SmallVec.{SmallVec}
use Rattle.gb_groups.specs.Groups.{owned_pair, pairs_of}
use Rattle.gb_defs.specs.Groups.{first_of}
use Rattle.gb_groups.specs.Order.{IsByFirst}

abbrev Item : Type 0
Item = ℕ × SmallVec ℕ

abbrev pub row_of : Item → ℕ
row_of item = item.0

-- ---- of items

-- a function of each element, at a place
at_place : {A B : Type 0} (f : A → B) (xs : List A) (k : ℕ) (d : A) (e : B) → k < length xs → get_or (map f xs) k e ≡ f (get_or xs k d)
at_place f xs k d e lt = get_or-map f xs k d e lt

in_order : (items : List Item) → IsSortedByKey row_of nat_cmp items → IsSortedByKey first_of nat_cmp (pairs_of items)
in_order [] sorted k d low lt = absurd (omega (arith, lt))
in_order (item ∷ items) sorted k d low lt =
    let all = item ∷ items in
    let inside : k + 1 < length all = omega (arith, lt, length-map all owned_pair) in
    let here = at_place owned_pair all k item d (omega (arith, inside)) in
    let next = at_place owned_pair all (k + 1) item d inside in
    rw (here, next) (sorted k item low inside)

kept : (b : Bool) (item : Item) (items : List Item) → cond b (owned_pair item ∷ pairs_of items) (pairs_of items) ≡ pairs_of (cond b (item ∷ items) items)
kept true item items = refl
kept false item items = refl

filter_pairs : (test : Item → Bool) (seen : ℕ × List ℕ → Bool) → ((item : Item) → seen (owned_pair item) ≡ test item) → (items : List Item) → filter seen (pairs_of items) ≡ pairs_of (filter test items)
filter_pairs test seen same [] = refl
filter_pairs test seen same (item ∷ items) = rw (same item, filter_pairs test seen same items) (kept (test item) item (filter test items))

ties_in_order : (old new : List Item) → IsPermutation old new → IsStableByKey row_of nat_cmp old new → IsStableByKey first_of nat_cmp (pairs_of old) (pairs_of new)
ties_in_order [] [] moved stable pair = refl
ties_in_order [] (item ∷ items) moved stable pair = absurd (omega (arith, length_permutation [] (item ∷ items) moved))
ties_in_order (item ∷ items) new moved stable pair =
    let same_row : Item → Bool = ties (λ (a b : Item). is_lt (nat_cmp a.0 b.0)) (pair.0, item.1) in
    let same_first : ℕ × List ℕ → Bool = ties (λ (a b : ℕ × List ℕ). is_lt (nat_cmp a.0 b.0)) pair in
    filter_pairs same_row same_first (λ i. refl) new ∙ ap pairs_of (stable (pair.0, item.1)) ∙ sym (filter_pairs same_row same_first (λ i. refl) (item ∷ items))

pub by_first : (old new : List Item) → IsPermutation old new → IsSortedByKey row_of nat_cmp new → IsStableByKey row_of nat_cmp old new → IsByFirst (pairs_of old) (pairs_of new)
by_first old new moved sorted stable = record {
  moved = IsPermutation-map owned_pair old new moved;
  sorted = in_order new sorted;
  stable = ties_in_order old new moved stable;
}

pub rows_ascend : (items : List Item) → IsSortedByKey row_of nat_cmp items → IsNonDecreasing (map row_of items)
rows_ascend [] sorted i j d le lt = absurd (omega (arith, lt))
rows_ascend (item ∷ items) sorted i j d le lt =
    let all = item ∷ items in
    let inside : j < length all = omega (arith, lt, length-map all row_of) in
    let low = at_place row_of all i item d (omega (arith, le, inside)) in
    let high = at_place row_of all j item d inside in
    rw (low, high) (IsNonDecreasingBy-from_sort row_of all sorted i j item le inside)

-- ---- of groups that are in order

not_below : (a b : ℕ) → a ≤ b → is_lt (nat_cmp b a) ≡ false
not_below a b le = grind (arith, nat_tests)

pub by_first_still : (firsts : List ℕ) (lists : List (List ℕ)) → length lists ≡ length firsts → IsNonDecreasing firsts → IsByFirst (zip firsts lists) (zip firsts lists)
by_first_still firsts lists long ascend = record {
  moved = IsPermutation-refl (zip firsts lists);
  sorted = λ k d low lt.
      let next : k + 1 < length firsts = omega (arith, lt, length-zip firsts lists, long) in
      let here : k < length firsts = omega (arith, next) in
      let at_here = get_or-zip firsts lists k d here (omega (arith, here, long)) in
      let at_next = get_or-zip firsts lists (k + 1) d next (omega (arith, next, long)) in
      rw (at_here, at_next) (not_below _ _ (ascend k (k + 1) d.0 (omega arith) next));
  stable = λ pair. refl;
}

pub in_order_still : (pairs : List (ℕ × List ℕ)) → IsNonDecreasing (map first_of pairs) → IsByFirst pairs pairs
in_order_still pairs ascend = record {
  moved = IsPermutation-refl pairs;
  sorted = λ k d low lt.
      let inside : k < length pairs = omega (arith, lt) in
      let next : k + 1 < length (map first_of pairs) = omega (arith, lt, length-map pairs first_of) in
      let at_here = get_or-map first_of pairs k d d.0 inside in
      let at_next = get_or-map first_of pairs (k + 1) d d.0 lt in
      not_below _ _ (rw (at_here, at_next) at (ascend k (k + 1) d.0 (omega arith) next));
  stable = λ pair. refl;
}
