-- Rows by the numbers of their groups.
use Rattle.std.specs.Prelude.{◌≡◌, ℕ, ◌+◌, ◌<◌, ◌≤◌, ◌==◌, List, [], ◌∷◌, ◌++◌, cond, get_or, length, map, count_by}
use Rattle.std.specs.List.{range_with_len}
use Rattle.smallvec.specs.SmallVec.{SmallVec}

-- of rows that have a number each, those with number k
unfoldable pub rows_of : List ℕ → List ℕ → ℕ → List ℕ
rows_of [] numbers k = []
rows_of (row ∷ rows) [] k = []
rows_of (row ∷ rows) (number ∷ numbers) k = cond (number == k) (row ∷ rows_of rows numbers k) (rows_of rows numbers k)

-- the rows of each group
abbrev pub lists_by : List ℕ → List ℕ → ℕ → List (List ℕ)
lists_by rows numbers groups = map (rows_of rows numbers) (range_with_len 0 groups)

-- how many rows have number k
abbrev pub count_of : List ℕ → ℕ → ℕ
count_of numbers k = count_by (λ number. number == k) numbers

-- the count of each group
abbrev pub counts_by : List ℕ → ℕ → List ℕ
counts_by numbers groups = map (count_of numbers) (range_with_len 0 groups)

-- no rows, and room for so many
pub record IsRoomFor (count : ℕ) (rows : SmallVec ℕ) : Type 0 where
  pub empty : rows.items ≡ []
  pub room : count ≤ rows.capacity

-- each list has room for the rows that have its number
abbrev pub HaveRoom : List ℕ → List (SmallVec ℕ) → Type 0
HaveRoom numbers lists = (k : ℕ) (d : SmallVec ℕ) → k < length lists → length (get_or lists k d).items + count_of numbers k ≤ (get_or lists k d).capacity

-- the rows that have number k stand behind those before
pub record HasMore (rows numbers : List ℕ) (k : ℕ) (before after : SmallVec ℕ) : Type 0 where
  pub longer : after.items ≡ before.items ++ rows_of rows numbers k
  pub room : after.capacity ≡ before.capacity

-- in each list the rows that have its number stand behind those before
pub record HaveMore (rows numbers : List ℕ) (before after : List (SmallVec ℕ)) : Type 0 where
  pub as_many : length after ≡ length before
  pub each : (k : ℕ) (d : SmallVec ℕ) → k < length before → HasMore rows numbers k (get_or before k d) (get_or after k d)
