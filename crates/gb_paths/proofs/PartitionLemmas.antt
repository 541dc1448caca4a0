-- The groups of partitions, united, and in the order of their first rows.
use Rattle.std.proofs.Common.{◌≡◌, ℕ, ◌<◌, Bool, true, false, List, [], ◌∷◌, get_or, map, filter, refl, ◌∙◌, ap}
use Rattle.std.specs.List.{flat_map, range_with_len, AllByRecursion}
use Rattle.std.proofs.lemmas.Simd.{map-map}
use Rattle.std.proofs.lemmas.List.Elements.{All-filter, All-from_recursion, recursion_from_All}
use Rattle.smallvec.specs.SmallVec.{SmallVec}
use Rattle.gb_defs.specs.Classes.{firsts, groups, is_first, rows_below}
use Rattle.gb_defs.specs.Groups.{Grouping, idx_groups}
use Rattle.gb_defs.specs.Hash.{partition_of}
use Rattle.gb_defs.specs.Partitions.{by_partition, in_partition, partition_groups}
use Rattle.gb_defs.proofs.PartitionLemmas.{map_flat_map, partitions_united, picked_once}
use Rattle.gb_groups.specs.Groups.{pairs_of}
use Rattle.gb_groups.specs.Order.{IsByFirst}
use Rattle.gb_groups.proofs.FirstLemmas.{grouped_by_first, tied_one}
use Rattle.gb_groups.proofs.OnceLemmas.{tied}
use Rattle.gb_paths.specs.Partitions.{rows_by_partition}

-- ---- united

flat_by : {A B C : Type 0} (f : A → List C) (g : B → List C) (xs : List A) (ys : List B) → map f xs ≡ map g ys → flat_map f xs ≡ flat_map g ys
flat_by f g [] [] e = refl
flat_by f g [] (y ∷ ys) e = cc
flat_by f g (x ∷ xs) [] e = cc
flat_by f g (x ∷ xs) (y ∷ ys) e =
    let head : f x ≡ g y = ap (λ (l : List (List _)). get_or l 0 (f x)) e in
    let tail : map f xs ≡ map g ys = cc in
    rw (head, flat_by f g xs ys tail)

module _ (agree : ℕ → ℕ → Bool) (hash : ℕ → ℕ) (n count : ℕ) where
  pub united : {V : Type 0} (items_of : V → List (ℕ × SmallVec ℕ)) (parts : List V) (lists : List (List ℕ)) → ((i j : ℕ) → i < count → j < count → agree i j ≡ true → hash i ≡ hash j) →
      map (λ part. pairs_of (items_of part)) parts ≡ map (groups agree) lists → lists ≡ rows_by_partition hash n (rows_below count) →
      pairs_of (flat_map items_of parts) ≡ partition_groups agree hash n (rows_below count)
  united items_of parts lists alike each split =
      map_flat_map _ items_of parts
      ∙ flat_by (λ part. pairs_of (items_of part)) (λ p. groups agree (filter (in_partition hash n p) (rows_below count))) parts (range_with_len 0 n)
      (each ∙ ap (map (groups agree)) split ∙ map-map (groups agree) (λ p. filter (in_partition hash n p) (rows_below count)) (range_with_len 0 n))
      ∙ partitions_united agree hash n count alike

-- ---- in the order of first rows

-- the groups of partitions are in the order of their first rows the groups of all rows
pub by_first_rows : (agree : ℕ → ℕ → Bool) (hash : ℕ → ℕ) (n count : ℕ) (before after : Grouping) → AllByRecursion (λ i. partition_of (hash i) n < n) (rows_below count) →
    before ≡ idx_groups (partition_groups agree hash n (rows_below count)) false → IsByFirst before.pairs after.pairs → after.flagged ≡ true → after.form ≡ before.form →
    after ≡ idx_groups (groups agree (rows_below count)) true
unfolding partition_groups firsts
by_first_rows agree hash n count before after within made sorted flagged form =
    let rows = rows_below count in
    let first = firsts agree rows in
    let within_first : AllByRecursion (λ i. partition_of (hash i) n < n) first =
    recursion_from_All (λ i. partition_of (hash i) n < n) _ (All-filter (is_first agree rows) (λ i. partition_of (hash i) n < n) rows (All-from_recursion (λ i. partition_of (hash i) n < n) rows within)) in
    grouped_by_first agree count (by_partition hash n first) (λ k. picked_once (tied k) k (tied_one k) hash n first within_first) false before after made sorted flagged form
