-- A table of groups by hash. A slot holds 0 where it is free, else a group's number and 1.
use Rattle.std.specs.Prelude.{◌≡◌, ◌≢◌, ℕ, ◌+◌, ◌*◌, ◌%◌, ◌^◌, ◌<◌, ◌≤◌, ◌==◌, ◌⊎◌, Bool, true, false, List, [], ◌∷◌, ◌++◌, length, slice_index, slice_index_or, IsTrue, All, count_by}

-- ---- what a caller sees: a list of each group's key and hash

-- a group with this key has this hash
abbrev pub AgreesInHash : {K : Type 0} → (K → K → Bool) → List (K × ℕ) → K → ℕ → Type 0
AgreesInHash eq entries key hash =
    (g : ℕ) (d : _) → g < length entries → IsTrue (eq (slice_index_or entries g d).0 key) → (slice_index_or entries g d).1 ≡ hash

-- the number is that of an entry with this key, and none was added
pub record IsKnown {K : Type 0} (eq : K → K → Bool) (old new : List (K × ℕ)) (key : K) (number : ℕ) : Type 0 where
  pub known : number < length old
  pub same : (d : K × ℕ) → eq (slice_index_or old number d).0 key ≡ true
  pub unchanged : new ≡ old

-- no entry had this key: it is the last one now, and the number is its place
pub record IsAdded {K : Type 0} (eq : K → K → Bool) (old new : List (K × ℕ)) (key : K) (hash number : ℕ) : Type 0 where
  pub absent : (g : ℕ) (d : K × ℕ) → g < length old → eq (slice_index_or old g d).0 key ≡ false
  pub last : number ≡ length old
  pub added : new ≡ old ++ (key, hash) ∷ []

-- the number is that of the key's group, which was there or is new
abbrev pub IsNumbered : {K : Type 0} → (K → K → Bool) → List (K × ℕ) → List (K × ℕ) → K → ℕ → ℕ → Type 0
IsNumbered eq old new key hash number = IsKnown eq old new key number ⊎ IsAdded eq old new key hash number

-- ---- the slots

-- what the slot at a place holds, where the places go round
abbrev pub held_at : List ℕ → ℕ → ℕ
held_at slots place = slice_index slots (place % length slots)

-- the slots from the hash on are taken, so many of them
pub record IsProbed (slots : List ℕ) (hash distance : ℕ) : Type 0 where
  pub near : distance < length slots
  pub taken : (d : ℕ) → d < distance → held_at slots (hash + d) ≢ 0

-- the first free slot from the hash on
pub record IsFreeFor (slots : List ℕ) (hash at : ℕ) : Type 0 where
  pub distance : ℕ
  pub probed : IsProbed slots hash distance
  pub place : at ≡ (hash + distance) % length slots
  pub free : slice_index slots at ≡ 0

-- the group stands from its hash on, before a free slot
pub record IsReached (slots : List ℕ) (hash group : ℕ) : Type 0 where
  pub distance : ℕ
  pub probed : IsProbed slots hash distance
  pub holds : held_at slots (hash + distance) ≡ group + 1

-- the groups with these hashes are in the slots, and nothing else is
pub record IsTable (slots hashes : List ℕ) : Type 0 where
  pub bits : ℕ
  pub size : length slots ≡ 2 ^ bits
  pub within : All (λ s. s ≤ length hashes) slots
  pub free_slots : count_by (λ s. s == 0) slots + length hashes ≡ length slots
  pub reach : (g : ℕ) → g < length hashes → IsReached slots (slice_index hashes g) g

pub record IsPowerOfTwo (n : ℕ) : Type 0 where
  pub bits : ℕ
  pub is : n ≡ 2 ^ bits

-- a table that is at most half full, and not much longer than it needs to be
pub record IsRoomy (slots hashes : List ℕ) : Type 0 where
  pub table : IsTable slots hashes
  pub half : 2 * length hashes ≤ length slots
  pub least : 16 ≤ length slots
  pub most : length slots ≤ 16 + 4 * length hashes
