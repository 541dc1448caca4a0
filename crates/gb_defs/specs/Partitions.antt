-- Groups by the partitions of their hashes.
use Rattle.std.specs.Prelude.{ℕ, Bool, ◌==◌, List, map, filter, flat_map, if◌then◌else◌}
use Rattle.std.specs.List.{range_with_len}
use Rattle.gb_defs.specs.Classes.{class, firsts, groups}
use Rattle.gb_defs.specs.Hash.{partition_of}

-- whether the hash of a row is of this partition, among n
abbrev pub in_partition : (ℕ → ℕ) → ℕ → ℕ → ℕ → Bool
in_partition hash n partition i = partition_of (hash i) n == partition

-- rows by the partition of their hash, those of one partition in their order
unfoldable pub by_partition : (ℕ → ℕ) → ℕ → List ℕ → List ℕ
by_partition hash n rows = flat_map (λ partition. filter (in_partition hash n partition) rows) (range_with_len 0 n)

module _ (agree : ℕ → ℕ → Bool) (hash : ℕ → ℕ) (n : ℕ) where
  -- each first row with the rows of its class, by the partition of the first row
  unfoldable pub partition_groups : List ℕ → List (ℕ × List ℕ)
  partition_groups rows = map (λ i. (i, class agree rows i)) (by_partition hash n (firsts agree rows))

  -- the groups by partition and then by first row, or where `sorted` by first row alone
  abbrev pub threaded_groups : Bool → List ℕ → List (ℕ × List ℕ)
  threaded_groups sorted rows = if sorted then groups agree rows else partition_groups rows
