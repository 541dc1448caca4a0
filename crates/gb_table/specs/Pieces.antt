-- The pieces that places cut from a list of bytes.
use Rattle.std.specs.Prelude.{◌≡◌, ◌≤◌, ℕ, zero, suc, ◌-◌, List, [], ◌∷◌, take, drop, length, get_or}
use Rattle.std.specs.List.{AllByRecursion}

-- the pieces of the bytes that end at these places, after a start
abbrev pub pieces_from : ℕ → List ℕ → List ℕ → List (List ℕ)
pieces_from start [] bytes = []
pieces_from start (end ∷ ends) bytes = take (end - start) (drop start bytes) ∷ pieces_from end ends bytes

-- where the piece at a place starts
abbrev pub start_of : ℕ → List ℕ → ℕ → ℕ
start_of start ends zero = start
start_of start ends (suc i) = get_or ends i 0

-- the places rise from a start to an end
abbrev pub Rises : ℕ → List ℕ → ℕ → Type 0
Rises start [] last = start ≡ last
Rises start (end ∷ ends) last = (start ≤ end) × Rises end ends last

-- the places cut all of the bytes into pieces of a kind
pub record ArePieces (P : List ℕ → Type 0) (bytes ends : List ℕ) : Type 0 where
  pub rises : Rises 0 ends (length bytes)
  pub fitting : AllByRecursion P (pieces_from 0 ends bytes)
