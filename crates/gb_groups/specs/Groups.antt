-- The groups that row lists hold.
use Rattle.std.specs.Prelude.{ℕ, List, map, zip}
use Rattle.std.specs.Borrow.{Bor}
use Rattle.smallvec.specs.SmallVec.{SmallVec}

-- the rows of each list
abbrev pub lists_of : List (SmallVec ℕ) → List (List ℕ)
lists_of lists = map (λ rows. rows.items) lists

-- the groups with these first rows and these lists
abbrev pub paired : List ℕ → List (SmallVec ℕ) → List (ℕ × List ℕ)
paired first lists = zip first (lists_of lists)

-- a group whose rows are lent
abbrev pub lent_pair : ℕ × Bor (SmallVec ℕ) → ℕ × List ℕ
lent_pair item = (item.0, item.1.now.items)

-- a group that is owned
abbrev pub owned_pair : ℕ × SmallVec ℕ → ℕ × List ℕ
owned_pair item = (item.0, item.1.items)

-- the groups that are owned
abbrev pub pairs_of : List (ℕ × SmallVec ℕ) → List (ℕ × List ℕ)
pairs_of items = map owned_pair items
