-- Texts in chunks, as one list.
use Rattle.std.specs.Prelude.{◌≡◌, ℕ, suc, ◌-◌, ◌<◌, ◌≤◌, List, length, get_or}
use Rattle.std.specs.Borrow.{Bor}
use Rattle.std.specs.List.{flat_map}
use Rattle.std.proofs.Math.ListN.{take}
use Rattle.gb_values.specs.Array.{start_of}

-- the texts of the chunks, chunk after chunk
abbrev pub texts_in : List (Bor (List (List ℕ))) → List (List ℕ)
texts_in chunks = flat_map (λ chunk. chunk.now) chunks

-- how many texts stand in each chunk and those before it
pub record AreEnds (chunks : List (Bor (List (List ℕ)))) (ends : List ℕ) : Type 0 where
  pub one_each : length ends ≡ length chunks
  pub at : (k : ℕ) → k < length chunks → get_or ends k 0 ≡ length (texts_in (take (suc k) chunks))

-- some chunk ends behind a place
pub record HasEndBehind (ends : List ℕ) (i : ℕ) : Type 0 where
  pub some : 0 < length ends
  pub behind : i < get_or ends (length ends - 1) 0

-- a place stands in the chunk at another one
pub record IsChunkAt (ends : List ℕ) (i at : ℕ) : Type 0 where
  pub within : at < length ends
  pub from : start_of 0 ends at ≤ i
  pub before : i < get_or ends at 0
