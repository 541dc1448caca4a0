-- The hashes of rows, in one list and in chunks.
use Rattle.std.specs.Prelude.{ℕ, ◌+◌, ◌-◌, ◌*◌, ◌/◌, ◌%◌, ◌^◌, ◌<◌, ◌≤◌, List, [], Vec, get_or, length, map, min}
use Rattle.std.specs.List.{range_with_len}
use Rattle.gb_defs.specs.Classes.{rows_below}
use Rattle.gb_defs.specs.Rows.{Rows}

-- the hash of each row
abbrev pub hashes_below : Rows → List ℕ
hashes_below rows = map rows.hash (rows_below rows.count)

-- so many rows from `start` on are among the rows, whose numbers fit 64 bits
pub record HasRows (rows : Rows) (start n : ℕ) : Type 0 where
  pub within : start + n ≤ rows.count
  pub fits : rows.count < 2 ^ 64

-- so many chunks of rows have a row each, and the rows' numbers fit 64 bits
pub record HasChunks (rows : Rows) (n : ℕ) : Type 0 where
  pub within : n * 8192 < rows.count + 8192
  pub fits : rows.count < 2 ^ 64

-- the hashes of the rows of chunk k
abbrev pub chunk_at : Rows → ℕ → List ℕ
chunk_at rows k = map rows.hash (range_with_len (k * 8192) (min 8192 (rows.count - k * 8192)))

-- those of each chunk of a range, its first and how many they are
abbrev pub chunks_from : Rows → ℕ × ℕ → List (List ℕ)
chunks_from rows range = map (chunk_at rows) (range_with_len range.0 range.1)

abbrev pub items_of : {A : Type 0} → List (Vec ℕ A) → List (List ℕ)
items_of chunks = map (λ chunk. chunk.items) chunks

-- the hash of a row, at its place in its chunk
abbrev pub hash_in : {A : Type 0} → List (Vec ℕ A) → ℕ → ℕ
hash_in chunks row = get_or (get_or (items_of chunks) (row / 8192) []) (row % 8192) 0

-- the hashes of so many rows
abbrev pub hashes_in : {A : Type 0} → List (Vec ℕ A) → ℕ → List ℕ
hashes_in chunks count = map (hash_in chunks) (range_with_len 0 count)

-- each of so many rows has a place
pub record AreChunks {A : Type 0} (chunks : List (Vec ℕ A)) (count : ℕ) : Type 0 where
  pub chunk : (row : ℕ) → row < count → row / 8192 < length chunks
  pub place : (row : ℕ) → row < count → row % 8192 < length (get_or (items_of chunks) (row / 8192) [])
