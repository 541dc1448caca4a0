-- Rows and hashes by partitions.
use Rattle.std.specs.Prelude.{◌≡◌, ℕ, ◌<◌, List, [], All, Vec, drop, filter, flat_map, get_or, length, map, take}
use Rattle.std.specs.List.{range_with_len}
use Rattle.smallvec.specs.SmallVec.{SmallVec}
use Rattle.gb_defs.specs.Groups.{AreMembers, HasRowNumbers}
use Rattle.gb_defs.specs.Hash.{partition_of}
use Rattle.gb_defs.specs.Partitions.{in_partition}
use Rattle.gb_defs.specs.Rows.{Rows, AreHashes}
use Rattle.gb_groups.specs.Groups.{lists_of, pairs_of}
use Rattle.gb_groups.specs.Numbers.{lists_by}
use Rattle.gb_paths.specs.Numbers.{groups_among}

-- the partition of each hash is one of the n
abbrev pub AreWithin : ℕ → List ℕ → Type 0
AreWithin n hashes = All (λ h. partition_of h n < n) hashes

-- the partition of each hash
abbrev pub partitions_by : ℕ → List ℕ → List ℕ
partitions_by n hashes = map (λ h. partition_of h n) hashes

-- the rows of each of n partitions
abbrev pub rows_by_partition : (ℕ → ℕ) → ℕ → List ℕ → List (List ℕ)
rows_by_partition hash n rows = map (λ p. filter (in_partition hash n p) rows) (range_with_len 0 n)

-- a list for each of n partitions
abbrev pub Lists : {A : Type 0} → ℕ → Vec (SmallVec ℕ) A → Type 0
Lists n share = length share.items ≡ n

-- the hashes of a share of the rows, its first and how many they are
abbrev pub share_of : List ℕ → ℕ × ℕ → List ℕ
share_of hashes share = take share.1 (drop share.0 hashes)

-- the lists of the rows of a share by the n partitions of their hashes, which are among those of all rows
pub record AreDealt (n : ℕ) (hashes : List ℕ) (share : ℕ × ℕ) (lists : List (SmallVec ℕ)) : Type 0 where
  pub listed : lists_of lists ≡ lists_by (range_with_len share.0 share.1) (partitions_by n (share_of hashes share)) n
  pub within : AreWithin n (share_of hashes share)

-- the rows of a partition: those that each share lists of it, share after share
abbrev pub list_joined : {A : Type 0} → List (Vec (SmallVec ℕ) A) → ℕ → List ℕ
list_joined shares partition = flat_map (λ share. get_or (lists_of share.items) partition []) shares

-- the same of each of n partitions
abbrev pub lists_joined : {A : Type 0} → ℕ → List (Vec (SmallVec ℕ) A) → List (List ℕ)
lists_joined n shares = map (list_joined shares) (range_with_len 0 n)

-- lists of some of the rows that have these hashes, from row 0 on, n from each share
pub record AreListed {A : Type 0} (rows : Rows) (hashes : List ℕ) (n : ℕ) (shares : List (Vec (SmallVec ℕ) A)) : Type 0 where
  pub few : HasRowNumbers rows.count
  pub each : All (Lists n) shares
  pub members : All (AreMembers (length hashes)) (lists_joined n shares)
  pub hashed : AreHashes rows 0 hashes

-- the groups of each part
abbrev pub groups_of_parts : {A : Type 0} → List (Vec (ℕ × SmallVec ℕ) A) → List (List (ℕ × List ℕ))
groups_of_parts parts = map (λ part. pairs_of part.items) parts

-- the groups of the rows of each partition of a range
abbrev pub groups_of_partitions : {A : Type 0} → Rows → List (Vec (SmallVec ℕ) A) → ℕ × ℕ → List (List (ℕ × List ℕ))
groups_of_partitions rows shares range = map (λ partition. groups_among rows (list_joined shares partition)) (range_with_len range.0 range.1)
