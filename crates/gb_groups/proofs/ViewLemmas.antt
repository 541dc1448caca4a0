-- Some groups that follow each other.
use Rattle.std.proofs.Common.{◌≡◌, ℕ, zero, suc, ◌+◌, ◌-◌, ◌<◌, ◌≤◌, ◌^◌, Bool, true, ℤ, pos, negsuc, List, [], ◌∷◌, length, get_or, take, drop, map, zip, refl, sym, ◌∙◌, ap, ap₂, arith}
use Rattle.std.specs.List.Sorted.{IsNonDecreasing}
use Rattle.std.proofs.lemmas.List.{drop-drop, drop-map, drop-take, get_or-drop, get_or-take, length-drop, length-map, length-take, take_all, take-map, take-take}
use Rattle.std.proofs.lemmas.List.Elements.{All-drop, All-take}
use Rattle.std.proofs.lemmas.Slice.Zip.{length-zip}
use Rattle.smallvec.specs.SmallVec.{SmallVec}
use Rattle.gb_defs.specs.Groups.{Grouping, Slice, first_of}
use Rattle.gb_defs.specs.Slices.{between, moved_into, slice_end, slice_start}
use Rattle.gb_groups.specs.Groups.{lists_of, paired}
use Rattle.gb_groups.specs.Slices.{SlicesFit, length_of, slice_groups, slice_pair, start_of}
use Rattle.gb_groups.specs.Views.{part_from, sliced_groups}

-- ---- a part of a list

module _ {A : Type 0} where
  pub part_at : (xs : List A) (start count i : ℕ) (d : A) → i < count → get_or (take count (drop start xs)) i d ≡ get_or xs (start + i) d
  part_at xs start count i d lt = get_or-take count (drop start xs) i d lt ∙ get_or-drop start xs i d

  pub part_long : (xs : List A) (start count : ℕ) → start + count ≤ length xs → length (take count (drop start xs)) ≡ count
  part_long xs start count within = omega (arith, length-take count (drop start xs), length-drop start xs)

  pub part_map : {B : Type 0} (f : A → B) (xs : List A) (start count : ℕ) → map f (take count (drop start xs)) ≡ take count (drop start (map f xs))
  part_map f xs start count = sym (take-map f count (drop start xs)) ∙ ap (take count) (sym (drop-map f start xs))

pub ascend_part : (xs : List ℕ) (start count : ℕ) → IsNonDecreasing xs → IsNonDecreasing (take count (drop start xs))
ascend_part xs start count ascend i j d le lt =
    let inside : j < count = omega (arith, lt, length-take count (drop start xs)) in
    let within : start + j < length xs = omega (arith, lt, length-take count (drop start xs), length-drop start xs) in
    rw (part_at xs start count i d (omega (arith, inside, le)), part_at xs start count j d inside) (ascend (start + i) (start + j) d (omega arith) within)

module _ {A B : Type 0} where
  take-zip : (n : ℕ) (xs : List A) (ys : List B) → take n (zip xs ys) ≡ zip (take n xs) (take n ys)
  take-zip zero xs ys = refl
  take-zip (suc n) [] ys = refl
  take-zip (suc n) (x ∷ xs) [] = refl
  take-zip (suc n) (x ∷ xs) (y ∷ ys) = ap (λ ps. (x, y) ∷ ps) (take-zip n xs ys)

  zip-nil : (xs : List A) → zip {K = A} {X = B} xs [] ≡ []
  zip-nil [] = refl
  zip-nil (x ∷ xs) = refl

  drop-zip : (n : ℕ) (xs : List A) (ys : List B) → drop n (zip xs ys) ≡ zip (drop n xs) (drop n ys)
  drop-zip zero xs ys = refl
  drop-zip (suc n) [] ys = refl
  drop-zip (suc n) (x ∷ xs) [] = sym (zip-nil (drop n xs))
  drop-zip (suc n) (x ∷ xs) (y ∷ ys) = drop-zip n xs ys

  pub part_zip : (xs : List A) (ys : List B) (start count : ℕ) → zip (take count (drop start xs)) (take count (drop start ys)) ≡ take count (drop start (zip xs ys))
  part_zip xs ys start count = sym (take-zip count (drop start xs) (drop start ys)) ∙ ap (take count) (sym (drop-zip start xs ys))

-- all groups are a part
pub part_whole : (g : Grouping) (count : ℕ) → count ≡ length g.pairs → part_from g 0 count ≡ g
part_whole g count all =
    ap (λ (ps : List (ℕ × List ℕ)). record { pairs = ps; form = g.form; flagged = g.flagged }) (take_all count g.pairs (omega (arith, all)))

-- ---- a part of first rows and row lists

module _ (first : List ℕ) (all : List (SmallVec ℕ)) (n : ℕ) (within : n ≤ length (paired first all)) where
  pub within_first : n ≤ length first
  within_first = omega (arith, within, length-zip first (lists_of all))

  pub within_all : n ≤ length all
  within_all = omega (arith, within, length-zip first (lists_of all), length-map all (λ (rows : SmallVec ℕ). rows.items))

pub paired_part : (first part_first : List ℕ) (all part_all : List (SmallVec ℕ)) (start count : ℕ) → part_first ≡ take count (drop start first) → part_all ≡ take count (drop start all) → paired part_first part_all ≡ take count (drop start (paired first all))
paired_part first part_first all part_all start count first_is all_is =
    let lists : lists_of part_all ≡ take count (drop start (lists_of all)) = ap lists_of all_is ∙ part_map (λ (rows : SmallVec ℕ). rows.items) all start count in
    ap₂ (λ (f : List ℕ) (ls : List (List ℕ)). zip f ls) first_is lists ∙ part_zip first (lists_of all) start count

-- ---- a part of runs

abbrev Ends : List ℕ → Type 0
Ends slice = start_of slice + length_of slice < 2 ^ 32

pub fit_part : (slices : List (List ℕ)) (start count : ℕ) → SlicesFit slices → SlicesFit (take count (drop start slices))
fit_part slices start count fit = record {
  ends = All-take Ends count (drop start slices) (All-drop Ends start slices fit.ends);
  ascend = rw (part_map start_of slices start count) (ascend_part (map start_of slices) start count fit.ascend);
}

pub runs_part : (slices : List (List ℕ)) (rolling : Bool) (start count : ℕ) → slice_groups (take count (drop start slices)) rolling ≡ part_from (slice_groups slices rolling) start count
runs_part slices rolling start count =
    ap (λ (ps : List (ℕ × List ℕ)). record { pairs = ps; form = Slice rolling; flagged = true }) (part_map slice_pair slices start count)

-- ---- what a slice shows of a part

pub start_in : (count : ℕ) (offset : ℤ) → moved_into count offset ≤ count
start_in count (pos n) = omega arith
start_in count (negsuc n) = omega arith

within_part : {A : Type 0} (xs : List A) (start count from n : ℕ) → from + n ≤ count → take n (drop (start + from) xs) ≡ take n (drop from (take count (drop start xs)))
within_part xs start count from n inside =
    let rest = drop start xs in
    let all : from + (count - from) ≡ count = omega (arith, inside) in
    let cut : drop from (take count rest) ≡ take (count - from) (drop from rest) = ap (λ n. drop from (take n rest)) (sym all) ∙ drop-take from (count - from) rest in
    sym (ap (take n) cut ∙ take-take n (count - from) (drop from rest) (omega (arith, inside)) ∙ ap (take n) (drop-drop from start xs))

-- a part of a part
pub part_again : (g : Grouping) (start count from n : ℕ) → from + n ≤ count → part_from g (start + from) n ≡ part_from (part_from g start count) from n
part_again g start count from n inside =
    ap (λ (ps : List (ℕ × List ℕ)). record { pairs = ps; form = g.form; flagged = g.flagged }) (within_part g.pairs start count from n inside)

module _ (g : Grouping) (start count : ℕ) (inside : start + count ≤ length g.pairs) (offset : ℤ) (len from to : ℕ) (from_is : from ≡ slice_start count offset) (to_is : to ≡ slice_end count offset len) where
  pub shown_inside : (from ≤ count) × (to ≤ count)
  shown_inside = (rw from_is (start_in count _), rw to_is (start_in count _))

  pub shown_part : part_from g (start + from) (to - from) ≡ sliced_groups offset len (part_from g start count)
  shown_part =
      let long : count ≡ length (take count (drop start g.pairs)) = sym (part_long g.pairs start count inside) in
      let from_at : from ≡ slice_start (length (take count (drop start g.pairs))) offset = from_is ∙ ap (λ n. slice_start n offset) long in
      let to_at : to ≡ slice_end (length (take count (drop start g.pairs))) offset len = to_is ∙ ap (λ n. slice_end n offset len) long in
      let same = within_part g.pairs start count from (to - from) (omega (arith, shown_inside.0, shown_inside.1)) in
      ap (λ (ps : List (ℕ × List ℕ)). record { pairs = ps; form = g.form; flagged = g.flagged })
      (same ∙ ap₂ (λ (f t : ℕ). between f t (take count (drop start g.pairs))) from_at to_at)

pub part_ascends : (g : Grouping) (start count : ℕ) → IsNonDecreasing (map first_of g.pairs) → IsNonDecreasing (map first_of (part_from g start count).pairs)
part_ascends g start count ascend = rw (part_map first_of g.pairs start count) (ascend_part (map first_of g.pairs) start count ascend)
