-- The first row of each row's group: its leader.
use Rattle.std.specs.Prelude.{◌≡◌, ℕ, ◌<◌, ◌≤◌, ◌==◌, Bool, List, [], ◌∷◌, Vec, if◌then◌else◌, get_or, length, map, set}
use Rattle.std.specs.List.{range_with_len}
use Rattle.smallvec.specs.SmallVec.{SmallVec}
use Rattle.gb_defs.specs.Classes.{rows_below}
use Rattle.gb_defs.specs.Rows.{Rows, same_slot_at}
use Rattle.gb_paths.specs.Partitions.{AreListed, list_joined, lists_joined, rows_by_partition}
use Rattle.gb_paths.specs.declared.leaders.LedRows.{LedRows}

-- the first of some rows that a row agrees with
abbrev pub leader_in : (ℕ → ℕ → Bool) → List ℕ → ℕ → ℕ
leader_in agree [] row = 0
leader_in agree (first ∷ rows) row = if agree row first then first else leader_in agree rows row

-- no row's leader is behind it, and each leads itself
pub record AreLeaders (leaders : List ℕ) : Type 0 where
  pub low : (row : ℕ) → row < length leaders → get_or leaders row 0 ≤ row
  pub own : (row : ℕ) → row < length leaders → get_or leaders (get_or leaders row 0) 0 ≡ get_or leaders row 0

-- two rows have one leader
abbrev pub same_leader : List ℕ → ℕ → ℕ → Bool
same_leader leaders row other = get_or leaders row 0 == get_or leaders other 0

-- values put into places of a list, one after another
abbrev pub put_at : List ℕ → List ℕ → List ℕ → List ℕ
put_at xs [] values = xs
put_at xs (place ∷ places) [] = xs
put_at xs (place ∷ places) (value ∷ values) = put_at (set xs place value) places values

-- the leaders of some rows after another put into their places
abbrev pub put_parts : List ℕ → List LedRows → List ℕ
put_parts xs [] = xs
put_parts xs (part ∷ parts) = put_parts (put_at xs part.rows.items part.leaders.items) parts

-- ---- by partitions

-- the rows of each of n partitions of the hashes, as shares list them
pub record ArePartitions {A : Type 0} (rows : Rows) (hashes : List ℕ) (n : ℕ) (shares : List (Vec (SmallVec ℕ) A)) : Type 0 where
  pub listed : AreListed rows hashes n shares
  pub split : lists_joined n shares ≡ rows_by_partition rows.hash n (rows_below rows.count)

-- the first of all rows that a row agrees with
abbrev pub leader_among : Rows → ℕ → ℕ
leader_among rows row = leader_in (same_slot_at rows.slot) (rows_below rows.count) row

-- some rows with their leaders
abbrev pub led : LedRows → List ℕ × List ℕ
led part = (part.rows.items, part.leaders.items)

abbrev pub led_by : Rows → List ℕ → List ℕ × List ℕ
led_by rows some = (some, map (leader_among rows) some)

-- the rows of each partition of a range, with their leaders
abbrev pub led_partitions : {A : Type 0} → Rows → List (Vec (SmallVec ℕ) A) → ℕ × ℕ → List (List ℕ × List ℕ)
led_partitions rows shares range = map (λ partition. led_by rows (list_joined shares partition)) (range_with_len range.0 range.1)
