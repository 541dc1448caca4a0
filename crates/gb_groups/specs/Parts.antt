-- Items whose first rows and row lists stand in two lists.
use Rattle.std.specs.Prelude.{◌≡◌, ℕ, List, length, map}
use Rattle.smallvec.specs.SmallVec.{SmallVec}

-- both lists have so many places
pub record HaveRoomFor (count : ℕ) (first : List ℕ) (all : List (SmallVec ℕ)) : Type 0 where
  pub first_room : length first ≡ count
  pub all_room : length all ≡ count

-- the one list has the first row of each item, and the other its rows
pub record Hold (items : List (ℕ × SmallVec ℕ)) (first : List ℕ) (all : List (SmallVec ℕ)) : Type 0 where
  pub first_rows : first ≡ map (λ item. item.0) items
  pub row_lists : all ≡ map (λ item. item.1) items
