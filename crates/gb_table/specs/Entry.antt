-- The entries of a table of groups, as pairs, as hashes, and as a search finds them.
use Rattle.std.specs.Prelude.{◌≡◌, ℕ, ◌<◌, List, length, map, slice_index_or, Bool, IsTrue, true, false}
use Rattle.gb_table.specs.Table.{IsFreeFor}
use Rattle.gb_table.specs.declared.group_table.Entry.{Entry}
use Rattle.gb_table.specs.declared.slots.Spot.{Spot}
use Rattle.gb_table.specs.declared.slots.Spot.TheVariants.{Known, Free}

-- what a caller sees of entries: each key with its hash
abbrev pub pairs_of : {K : Type 0} → List (Entry K) → List (K × ℕ)
pairs_of entries = map (λ e. (e.key, e.hash)) entries

-- the hash of each entry
abbrev pub hashes_of : {K : Type 0} → List (Entry K) → List ℕ
hashes_of entries = map (λ e. e.hash) entries

-- an entry with this key has this hash
abbrev pub AgreeInHash : {K : Type 0} → (K → K → Bool) → List (Entry K) → K → ℕ → Type 0
AgreeInHash eq entries key hash =
    (g : ℕ) (d : _) → g < length entries → IsTrue (eq (slice_index_or entries g d).key key) → (slice_index_or entries g d).hash ≡ hash

-- the number of an entry with the key; a free spot says that no entry has it, and is the first free slot from the hash on
abbrev pub IsSpot : {K : Type 0} → (K → K → Bool) → List ℕ → List (Entry K) → ℕ → K → Spot → Type 0
IsSpot eq slots entries hash key (Known number) = (number < length entries) × ((d : Entry _) → eq (slice_index_or entries number d).key key ≡ true)
IsSpot eq slots entries hash key (Free at) = IsFreeFor slots hash at × ((g : ℕ) (d : Entry _) → g < length entries → eq (slice_index_or entries g d).key key ≡ false)
