-- What contracts see of groups: in order, each its first row with its rows. A pair, an item and a group
-- are one thing.
use Rattle.std.specs.Prelude.{◌≡◌, ℕ, ◌<◌, ◌^◌, Bool, List, [], ◌∷◌, length, map, All}
use Rattle.std.specs.List.Sorted.{IsStrictlyIncreasing}

-- row lists, or the first row and the length of a run; runs that roll may overlap
pub data GroupsForm : Type 0 where
  Idx : GroupsForm
  Slice : Bool → GroupsForm

pub record Grouping : Type 0 where
  pub pairs : List (ℕ × List ℕ)
  pub form : GroupsForm
  -- that the first rows never descend
  pub flagged : Bool

abbrev pub first_of : ℕ × List ℕ → ℕ
first_of pair = pair.0

abbrev pub rows_of_pair : ℕ × List ℕ → List ℕ
rows_of_pair pair = pair.1

-- the row list of each group
abbrev pub lists_in : Grouping → List (List ℕ)
lists_in g = map rows_of_pair g.pairs

-- groups as row lists in this order, flagged or not
abbrev pub idx_groups : List (ℕ × List ℕ) → Bool → Grouping
idx_groups pairs flagged = record { pairs = pairs; form = Idx; flagged = flagged }

-- rows have numbers of 32 bits
abbrev pub HasRowNumbers : ℕ → Type 0
HasRowNumbers n = n < 2 ^ 32

-- some of the rows below n, ascending
pub record AreMembers (n : ℕ) (rows : List ℕ) : Type 0 where
  pub below : All (λ row. row < n) rows
  pub ascend : IsStrictlyIncreasing rows

abbrev pub IsHead : ℕ → List ℕ → Type 0
IsHead first [] = Unit {0}
IsHead first (row ∷ rows) = first ≡ row

-- the group's rows are below n and ascend, and its first row is their head
pub record FitsRows (n : ℕ) (group : ℕ × List ℕ) : Type 0 where
  pub first : group.0 < n
  pub members : AreMembers n group.1
  pub head : IsHead group.0 group.1

-- and no group is empty
pub record IsWellFormed (n : ℕ) (groups : List (ℕ × List ℕ)) : Type 0 where
  pub fit : All (FitsRows n) groups
  pub some : All (λ group. 0 < length group.1) groups
