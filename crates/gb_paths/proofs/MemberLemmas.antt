-- Rows that ascend: all rows, those that pass a test, and one more at their end.
use Rattle.std.proofs.Common.{◌≡◌, ℕ, zero, suc, ◌+◌, ◌<◌, ◌≤◌, Bool, List, [], ◌∷◌, ◌++◌, length, get_or, set, map, filter, take, All, refl, sym, ◌∙◌, ap, arith, eqb, inl, inr}
use Rattle.std.specs.List.{range_with_len, AllByRecursion}
use Rattle.std.specs.List.Sorted.{IsStrictlyIncreasing}
use Rattle.std.proofs.lemmas.List.{get_or-map, length-map, map-append, take_all, take_more}
use Rattle.std.proofs.lemmas.List.Elements.{All-filter, All-map, All-more, All-from_recursion, recursion_from_All}
use Rattle.std.proofs.lemmas.Bool.{cases_Bool}
use Rattle.std.proofs.lemmas.Simd.{map-map}
use Rattle.std.proofs.lemmas.Slice.Zip.{length-zip}
use Rattle.std.proofs.lemmas.List.FromFn.{fill_by_all, get_or-range_with_len, length-map-range_with_len, length-range_with_len}
use Rattle.std.proofs.lemmas.List.Kept.{AllPairs-from_increasing, IsStrictlyIncreasing-filter}
use Rattle.gb_defs.specs.Classes.{rows_below}
use Rattle.gb_defs.specs.Groups.{AreMembers}
use Rattle.gb_defs.specs.Hash.{partition_of}
use Rattle.gb_defs.specs.Partitions.{in_partition}
use Rattle.gb_defs.proofs.ClassesLemmas.{rows_below_all}
use Rattle.gb_groups.specs.Numbers.{count_of, counts_by, lists_by, rows_of}
use Rattle.gb_paths.specs.Numbers.{pairs_by}
use Rattle.gb_paths.specs.Partitions.{AreWithin, partitions_by, rows_by_partition}
use Rattle.smallvec.specs.SmallVec.{SmallVec}
use Rattle.gb_groups.specs.Groups.{lists_of}
use Rattle.gb_groups.proofs.NumberLemmas.{count_more, map_range_same, rows_by}

pub all_members : (n : ℕ) → AreMembers n (rows_below n)
all_members n = record {
  below = All-from_recursion (λ row. row < n) (rows_below n) (rows_below_all n);
  ascend = λ k within.
      let long = length-range_with_len 0 n in
      let here : k < n = omega (arith, within, long) in
      let next : k + 1 < n = omega (arith, within, long) in
      rw (get_or-range_with_len 0 n k 0 here, get_or-range_with_len 0 n (k + 1) 0 next) (omega arith);
}

pub member_inside : (n : ℕ) (rows : List ℕ) (place row : ℕ) → AreMembers n rows → place < length rows → row ≡ get_or rows place 0 → row < n
member_inside n rows place row m lt is = rw is (m.below place 0 lt)

pub some_members : (n : ℕ) (test : ℕ → Bool) (rows : List ℕ) → AreMembers n rows → AreMembers n (filter test rows)
some_members n test rows m = record {
  below = All-filter test (λ row. row < n) rows m.below;
  ascend = IsStrictlyIncreasing-filter test rows m.ascend;
}

pub members_more : (m n : ℕ) (rows : List ℕ) → m ≤ n → AreMembers m rows → AreMembers n rows
members_more m n rows few members = record {
  below = λ k d lt. let inside = members.below k d lt in omega (arith, few, inside);
  ascend = members.ascend;
}

-- strictly ascending numbers are no fewer than their places
place_below : (n : ℕ) (rows : List ℕ) → AreMembers n rows → (k : ℕ) → k < length rows → k ≤ get_or rows k 0
place_below n rows m zero lt = omega arith
place_below n rows m (suc k) lt =
    let before = place_below n rows m k (omega (arith, lt)) in
    let next : k + 1 ≡ suc k = omega arith in
    let above = m.ascend k (omega (arith, lt)) in
    omega (arith, before, above, ap (λ j. get_or rows j 0) next)

pub few_members : (n : ℕ) (rows : List ℕ) → AreMembers n rows → length rows ≤ n
few_members n [] m = omega arith
few_members n (r ∷ rs) m =
    let last = place_below n (r ∷ rs) m (length rs) (omega arith) in
    let inside = m.below (length rs) 0 (omega arith) in
    omega (arith, last, inside)

-- ---- the rows of each number

picked_all : (numbers : List ℕ) (k : ℕ) (P : ℕ → Type 0) (rows : List ℕ) → AllByRecursion P rows → AllByRecursion P (rows_of rows numbers k)
unfolding rows_of
picked_all numbers k P [] h = tt
picked_all [] k P (r ∷ rs) h = tt
picked_all (m ∷ ms) k P (r ∷ rs) h = elim (cases_Bool (eqb m k)) [
  | inl e ↦ rw e (h.0, picked_all ms k P rs h.1)
  | inr e ↦ rw e (picked_all ms k P rs h.1)
]

-- each row is below all behind it
abbrev ByPairs : List ℕ → Type 0
ByPairs [] = Unit {0}
ByPairs (r ∷ rs) = AllByRecursion (λ s. r < s) rs × ByPairs rs

pairs_from : (rows : List ℕ) → IsStrictlyIncreasing rows → ByPairs rows
pairs_from [] up = tt
pairs_from (r ∷ rs) up =
    let pairs = AllPairs-from_increasing (r ∷ rs) up in (
      recursion_from_All (λ s. r < s) rs (λ k d lt. pairs 0 (suc k) d (omega arith) (omega (arith, lt))),
      pairs_from rs (λ k within.
          let next : suc k + 1 ≡ suc (k + 1) = omega arith in
          let here = up (suc k) (omega (arith, within)) in
          rw next at here),
    )

pairs_ascend : (rows : List ℕ) → ByPairs rows → IsStrictlyIncreasing rows
pairs_ascend [] h k within = absurd (omega (arith, within))
pairs_ascend (r ∷ rs) h zero within = All-from_recursion (λ s. r < s) rs h.0 zero 0 (omega (arith, within))
pairs_ascend (r ∷ rs) h (suc k) within =
    let next : suc k + 1 ≡ suc (k + 1) = omega arith in
    rw next (pairs_ascend rs h.1 k (omega (arith, within)))

-- ---- the rows of each partition

pub partition_lists : (hash : ℕ → ℕ) (n : ℕ) (rows hashes numbers : List ℕ) → hashes ≡ map hash rows → numbers ≡ map (λ h. partition_of h n) hashes →
    lists_by rows numbers n ≡ rows_by_partition hash n rows
partition_lists hash n rows hashes numbers hashed numbered =
    let whole : numbers ≡ map (λ row. partition_of (hash row) n) rows = numbered ∙ ap (map (λ h. partition_of h n)) hashed ∙ map-map (λ h. partition_of h n) hash rows in
    map_range_same (rows_of rows numbers) (λ p. filter (in_partition hash n p) rows) n [] (λ p lt. ap (λ ns. rows_of rows ns p) whole ∙ rows_by (λ row. partition_of (hash row) n) rows p)

-- the partition of one hash more
partitions_more : (n i p : ℕ) (hashes : List ℕ) → i < length hashes → p ≡ partition_of (get_or hashes i 0) n → partitions_by n (take (i + 1) hashes) ≡ partitions_by n (take i hashes) ++ p ∷ []
partitions_more n i p hashes lt is =
    ap (partitions_by n) (take_more hashes i 0 lt) ∙ map-append (λ h. partition_of h n) (take i hashes) (get_or hashes i 0 ∷ [])
    ∙ ap (λ q. partitions_by n (take i hashes) ++ q ∷ []) (sym is)

-- the partition of one hash more is counted
pub partition_counted : (n i p : ℕ) (hashes counts : List ℕ) → i < length hashes → p ≡ partition_of (get_or hashes i 0) n → p < length counts →
    ((k : ℕ) → get_or counts k 0 ≡ count_of (partitions_by n (take i hashes)) k) →
    (k : ℕ) → get_or (set counts p (get_or counts p 0 + 1)) k 0 ≡ count_of (partitions_by n (take (i + 1) hashes)) k
partition_counted n i p hashes counts lt is inside f k = count_more (partitions_by n (take i hashes)) p counts inside f k ∙ ap (λ ns. count_of ns k) (sym (partitions_more n i p hashes lt is))

-- one hash more is within the partitions
pub within_more : (n i p : ℕ) (hashes : List ℕ) → i < length hashes → p ≡ partition_of (get_or hashes i 0) n → p < n → AreWithin n (take i hashes) → AreWithin n (take (i + 1) hashes)
within_more n i p hashes lt is below within = All-more (λ h. partition_of h n < n) hashes i 0 lt within (rw (← is) below)

-- the counts of the partitions of all hashes
pub partitions_counted : (n i : ℕ) (hashes counts : List ℕ) → length hashes ≤ i → ((k : ℕ) → get_or counts k 0 ≡ count_of (partitions_by n (take i hashes)) k) →
    counts ≡ counts_by (partitions_by n hashes) (length counts)
partitions_counted n i hashes counts all f =
    fill_by_all (count_of (partitions_by n hashes)) counts (length counts) 0 refl (λ k lt. f k ∙ ap (λ hs. count_of (partitions_by n hs) k) (take_all i hashes all))

-- a part of the rows, in their order
picked_pairs : (numbers : List ℕ) (k : ℕ) (rows : List ℕ) → ByPairs rows → ByPairs (rows_of rows numbers k)
unfolding rows_of
picked_pairs numbers k [] h = tt
picked_pairs [] k (r ∷ rs) h = tt
picked_pairs (m ∷ ms) k (r ∷ rs) h = elim (cases_Bool (eqb m k)) [
  | inl e ↦ rw e (picked_all ms k (λ s. r < s) rs h.0, picked_pairs ms k rs h.1)
  | inr e ↦ rw e (picked_pairs ms k rs h.1)
]

picked_members : (n : ℕ) (numbers : List ℕ) (k : ℕ) (rows : List ℕ) → AreMembers n rows → AreMembers n (rows_of rows numbers k)
picked_members n numbers k rows m = record {
  below = All-from_recursion (λ row. row < n) _ (picked_all numbers k (λ row. row < n) rows (recursion_from_All (λ row. row < n) rows m.below));
  ascend = pairs_ascend _ (picked_pairs numbers k rows (pairs_from rows m.ascend));
}

pub listed_members : (n : ℕ) (rows numbers : List ℕ) (groups : ℕ) → AreMembers n rows → All (AreMembers n) (lists_by rows numbers groups)
listed_members n rows numbers groups m = All-map (AreMembers n) (rows_of rows numbers) (range_with_len 0 groups) (λ k d lt. picked_members n numbers (get_or (range_with_len 0 groups) k d) rows m)

-- what holds of the lists holds of one of them
pub list_at : (P : List ℕ → Type 0) (lists : List (SmallVec ℕ)) → All P (lists_of lists) → (k : ℕ) (d : SmallVec ℕ) → k < length lists → P (get_or lists k d).items
list_at P lists all k d lt =
    let inside : k < length (lists_of lists) = omega (arith, lt, length-map lists (λ (list : SmallVec ℕ). list.items)) in
    rw (← get_or-map (λ (list : SmallVec ℕ). list.items) lists k d d.items lt) (all k d.items inside)

-- rows whose hashes are within the partitions
pub rows_within : (n count : ℕ) (hash : ℕ → ℕ) (hashes : List ℕ) → hashes ≡ map hash (rows_below count) → AreWithin n hashes → AllByRecursion (λ i. partition_of (hash i) n < n) (rows_below count)
rows_within n count hash hashes hashed within = recursion_from_All (λ i. partition_of (hash i) n < n) (rows_below count) (λ k d lt.
    let place : k < length hashes = omega (arith, lt, ap length hashed, length-map (rows_below count) hash) in
    let at : get_or hashes k 0 ≡ hash (get_or (rows_below count) k d) = ap (λ hs. get_or hs k 0) hashed ∙ get_or-map hash (rows_below count) k d 0 lt in
    rw (← at) (within k 0 place))

-- there is a list for each number
pub as_many : (rows numbers : List ℕ) (groups : ℕ) (lists : List (SmallVec ℕ)) → lists_of lists ≡ lists_by rows numbers groups → groups ≡ length lists
as_many rows numbers groups lists made =
    sym (sym (length-map lists (λ (list : SmallVec ℕ). list.items)) ∙ ap length made ∙ length-map-range_with_len (rows_of rows numbers) 0 groups)

-- and a pair for each first row
pub pairs_many : (rows numbers first : List ℕ) → length (pairs_by rows numbers first) ≡ length first
pairs_many rows numbers first =
    let long = length-zip first (lists_by rows numbers (length first)) in
    let lists = length-map-range_with_len (rows_of rows numbers) 0 (length first) in
    omega (arith, long, lists)
