-- What calls on groups ask and give, each with a group that is lent.
use Rattle.std.specs.Prelude.{◌≡◌, ℕ, ◌<◌, List, [], length, slice_index_or}
use Rattle.std.specs.Borrow.{Bor}
use Rattle.std.specs.Fn.{FnReturns, Shared}
use Rattle.smallvec.specs.SmallVec.{SmallVec}
use Rattle.gb_groups.specs.declared.groups_type.GroupsIndicator.{GroupsIndicator}
use Rattle.gb_groups.specs.Groups.{lent_pair}
use Rattle.gb_groups.specs.GroupsIndicator.{pair_of}

module _ {F X : Type 0} (g : Shared F (GroupsIndicator × Unit {0}) X) (f : F) where
  -- f may be called with each group
  abbrev pub TakesGroups : List (ℕ × List ℕ) → Type 0
  TakesGroups pairs = (k : ℕ) (group : GroupsIndicator) → k < length pairs → pair_of group ≡ slice_index_or pairs k (0, []) → g.pre f (group, tt)

  -- a call with the group may give x
  pub record GivesOfGroup (pair : ℕ × List ℕ) (x : X) : Type 0 where
    pub group : GroupsIndicator
    pub shows : pair_of group ≡ pair
    pub says : FnReturns g f (group, tt) x

  abbrev pub GivesOfGroups : List (ℕ × List ℕ) → List X → Type 0
  GivesOfGroups pairs xs = (k : ℕ) (d : X) → k < length pairs → GivesOfGroup (slice_index_or pairs k (0, [])) (slice_index_or xs k d)

-- the same with a group's first row and its list of rows
module _ {F X : Type 0} (g : Shared F (ℕ × (Bor (SmallVec ℕ) × Unit {0})) X) (f : F) where
  abbrev pub TakesLists : List (ℕ × List ℕ) → Type 0
  TakesLists pairs = (k first : ℕ) (rows : Bor (SmallVec ℕ)) → k < length pairs → lent_pair (first, rows) ≡ slice_index_or pairs k (0, []) → g.pre f (first, (rows, tt))

  pub record GivesOfList (pair : ℕ × List ℕ) (x : X) : Type 0 where
    pub first : ℕ
    pub rows : Bor (SmallVec ℕ)
    pub shows : lent_pair (first, rows) ≡ pair
    pub says : FnReturns g f (first, (rows, tt)) x

  abbrev pub GivesOfLists : List (ℕ × List ℕ) → List X → Type 0
  GivesOfLists pairs xs = (k : ℕ) (d : X) → k < length pairs → GivesOfList (slice_index_or pairs k (0, [])) (slice_index_or xs k d)
