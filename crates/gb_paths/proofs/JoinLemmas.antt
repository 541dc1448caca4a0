-- Lists of rows by share and by partition, joined share after share.
use Rattle.std.proofs.Common.{◌≡◌, ℕ, ◌+◌, ◌<◌, ◌≤◌, List, [], ◌∷◌, length, get_or, map, filter, take, drop, All, Vec, refl, sym, ◌∙◌, ap, subst, arith}
use Rattle.std.specs.List.{range_with_len}
use Rattle.std.proofs.lemmas.List.{drop-map, length-map, take-map}
use Rattle.std.proofs.lemmas.List.Elements.{All-map}
use Rattle.std.proofs.lemmas.List.FromFn.{fill_by_all, get_or-map-range_with_len, length-map-range_with_len, length-range_with_len}
use Rattle.smallvec.specs.SmallVec.{SmallVec}
use Rattle.gb_defs.specs.Classes.{rows_below}
use Rattle.gb_defs.specs.Flat.{range_at}
use Rattle.gb_defs.specs.Groups.{AreMembers}
use Rattle.gb_defs.specs.Hash.{partition_of}
use Rattle.gb_defs.specs.Partitions.{in_partition}
use Rattle.gb_flat.proofs.RangeLemmas.{filtered_joined, range_between, shares_hold}
use Rattle.gb_flat.proofs.ShareLemmas.{range_inside}
use Rattle.gb_groups.specs.Groups.{lists_of}
use Rattle.gb_groups.specs.Numbers.{lists_by, rows_of}
use Rattle.gb_paths.specs.Partitions.{AreDealt, AreWithin, Lists, list_joined, lists_joined, partitions_by, rows_by_partition}
use Rattle.gb_paths.proofs.MemberLemmas.{all_members, partition_lists, some_members}
use Rattle.gb_groups.proofs.NumberLemmas.{map_range_same}

-- ---- the lists of each share

-- each row's hash, read by row
own_hash : (hashes : List ℕ) → hashes ≡ map (λ row. get_or hashes row 0) (rows_below (length hashes))
own_hash hashes = fill_by_all (λ row. get_or hashes row 0) hashes (length hashes) 0 refl (λ k lt. refl)

dealt_list : (n : ℕ) (hash : ℕ → ℕ) (hashes : List ℕ) → hashes ≡ map hash (rows_below (length hashes)) → (share : ℕ × ℕ) (lists : List (SmallVec ℕ)) → share.0 + share.1 ≤ length hashes → AreDealt n hashes share lists →
    (p : ℕ) → p < n → get_or (lists_of lists) p [] ≡ filter (in_partition hash n p) (take share.1 (drop share.0 (rows_below (length hashes))))
dealt_list n hash hashes hashed share lists inside dealt p lt =
    let rows = rows_below (length hashes) in
    let mine = take share.1 (drop share.0 rows) in
    let own = take share.1 (drop share.0 hashes) in
    let rows_are : mine ≡ range_with_len share.0 share.1 = range_between (length hashes) share.0 share.1 inside in
    let hashes_are : own ≡ map hash mine = ap (λ hs. take share.1 (drop share.0 hs)) hashed ∙ ap (take share.1) (drop-map hash share.0 rows) ∙ take-map hash share.1 (drop share.0 rows) in
    let lists_are : lists_of lists ≡ rows_by_partition hash n mine = dealt.listed ∙ ap (λ rs. lists_by rs (partitions_by n own) n) (sym rows_are) ∙ partition_lists hash n mine own _ hashes_are refl in
    ap (λ ls. get_or ls p []) lists_are ∙ get_or-map-range_with_len (λ q. filter (in_partition hash n q) mine) 0 n p p [] lt (omega arith)

pub dealt_long : (n : ℕ) (hashes : List ℕ) (share : ℕ × ℕ) (lists : List (SmallVec ℕ)) → AreDealt n hashes share lists → length lists ≡ n
dealt_long n hashes share lists dealt =
    sym (length-map lists (λ (list : SmallVec ℕ). list.items)) ∙ ap length dealt.listed
    ∙ length-map-range_with_len (rows_of (range_with_len share.0 share.1) (partitions_by n (take share.1 (drop share.0 hashes)))) 0 n

module _ {A : Type 0} (n : ℕ) (hashes : List ℕ) (m : ℕ) (some : 1 ≤ m) (shares : List (Vec (SmallVec ℕ) A)) (long : length shares ≡ m)
    (each : (k : ℕ) (d : Vec (SmallVec ℕ) A) → k < m → AreDealt n hashes (range_at (length hashes) m k) (get_or shares k d).items) where
  -- joined they are the rows of each partition
  pub dealt_joined : (hash : ℕ → ℕ) → hashes ≡ map hash (rows_below (length hashes)) → lists_joined n shares ≡ rows_by_partition hash n (rows_below (length hashes))
  dealt_joined hash hashed =
      let rows = rows_below (length hashes) in
      map_range_same (list_joined shares) (λ p. filter (in_partition hash n p) rows) n [] (λ p lt.
      filtered_joined rows m some (λ share. get_or (lists_of share.items) p []) (in_partition hash n p) shares long (λ k d inside.
      dealt_list n hash hashes hashed (range_at (length hashes) m k) _ (range_inside (length hashes) m k inside) (each k d inside) p lt
      ∙ ap (λ l. filter (in_partition hash n p) (take (range_at l m k).1 (drop (range_at l m k).0 rows))) (sym (length-range_with_len 0 (length hashes)))))

  pub dealt_members : All (AreMembers (length hashes)) (lists_joined n shares)
  dealt_members =
      let rows = rows_below (length hashes) in
      let hash : ℕ → ℕ = λ row. get_or hashes row 0 in
      subst (All (AreMembers (length hashes))) (sym (dealt_joined hash (own_hash hashes)))
      (All-map (AreMembers (length hashes)) (λ p. filter (in_partition hash n p) rows) (range_with_len 0 n) (λ k d lt. some_members (length hashes) _ rows (all_members (length hashes))))

  pub dealt_each : All (Lists n) shares
  dealt_each k d lt = dealt_long n hashes _ _ (each k d (omega (arith, lt, long)))

pub dealt_within : {A : Type 0} (n : ℕ) (hashes : List ℕ) (m : ℕ) → 1 ≤ m → (shares : List (Vec (SmallVec ℕ) A)) → length shares ≡ m →
    ((k : ℕ) (d : Vec (SmallVec ℕ) A) → k < m → AreDealt n hashes (range_at (length hashes) m k) (get_or shares k d).items) → AreWithin n hashes
dealt_within n hashes m some [] long each = absurd (omega (arith, some, long))
dealt_within n hashes m some (share ∷ shares) long each = shares_hold hashes m some (λ h. partition_of h n < n) (λ k lt. (each k share lt).within)

-- what holds of the rows of each partition
pub joined_at : {A : Type 0} (P : List ℕ → Type 0) (n : ℕ) (shares : List (Vec (SmallVec ℕ) A)) → All P (lists_joined n shares) → (p : ℕ) → p < n → P (list_joined shares p)
joined_at P n shares all p lt =
    let inside : p < length (lists_joined n shares) = omega (arith, lt, length-map-range_with_len (list_joined shares) 0 n) in
    subst P (get_or-map-range_with_len (list_joined shares) 0 n p p [] lt (omega arith)) (all p [] inside)
