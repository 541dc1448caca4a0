-- Rows that have keys, as a grouping sees them, and their groups by one table and by partitions.
use Rattle.std.specs.Prelude.{◌≡◌, ℕ, ◌+◌, ◌<◌, ◌≤◌, Bool, List, length, map}
use Rattle.std.specs.List.{range_with_len}
use Rattle.std.specs.Int.{Width}
use Rattle.gb_defs.specs.Slot.{Slot, slot_at, slot_eq}
use Rattle.gb_defs.specs.Classes.{groups, rows_below}
use Rattle.gb_defs.specs.Hash.{hash_of}
use Rattle.gb_defs.specs.Groups.{Grouping, idx_groups}
use Rattle.gb_defs.specs.Partitions.{threaded_groups}

-- how many rows there are, what each holds, and its hash
pub record Rows : Type 0 where
  pub count : ℕ
  pub slot : ℕ → Slot
  pub hash : ℕ → ℕ

-- the rows of a list of slots, whose numbers have this width
abbrev pub rows_of_slots : Width → ℕ → (ℕ → ℕ) → List Slot → Rows
rows_of_slots width seed mix slots = record { count = length slots; slot = slot_at slots; hash = λ i. hash_of width seed mix (slot_at slots i) }

-- rows with one slot
abbrev pub same_slot_at : (ℕ → Slot) → ℕ → ℕ → Bool
same_slot_at slot i j = slot_eq (slot i) (slot j)

-- rows stand for others: as many, agreeing alike, hashing alike
pub record StandsFor (own rows : Rows) : Type 0 where
  pub many : rows.count ≡ own.count
  pub agree : (i j : ℕ) → i < own.count → j < own.count → same_slot_at own.slot i j ≡ same_slot_at rows.slot i j
  pub hashed : (i : ℕ) → i < own.count → own.hash i ≡ rows.hash i

-- the groups by one table: in the order of their first rows
abbrev pub table_groups : Rows → Bool → Grouping
table_groups rows sorted = idx_groups (groups (same_slot_at rows.slot) (rows_below rows.count)) sorted

-- the groups by n partitions of the hashes
abbrev pub hashed_groups : Rows → ℕ → Bool → Grouping
hashed_groups rows n sorted = idx_groups (threaded_groups (same_slot_at rows.slot) rows.hash n sorted (rows_below rows.count)) sorted

-- the hashes of the rows from `start` on, so many
pub record AreHashes (rows : Rows) (start : ℕ) (hashes : List ℕ) : Type 0 where
  pub within : start + length hashes ≤ rows.count
  pub are : hashes ≡ map rows.hash (range_with_len start (length hashes))
