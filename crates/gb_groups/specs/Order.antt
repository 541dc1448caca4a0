-- Groups in the order of their first rows.
use Rattle.std.specs.Prelude.{◌≡◌, ℕ, List}
use Rattle.std.specs.List.Sorted.{IsPermutation, IsSortedByKey, IsStableByKey}
use Rattle.std.specs.Ordering.{nat_cmp}
use Rattle.gb_defs.specs.Groups.{first_of}

-- `after` has the groups of `before` by their first rows; groups of one first row keep their order
pub record IsByFirst (before after : List (ℕ × List ℕ)) : Type 0 where
  pub moved : IsPermutation before after
  pub sorted : IsSortedByKey first_of nat_cmp after
  pub stable : IsStableByKey first_of nat_cmp before after

-- any groups can be put by their first rows in one way only
abbrev pub OrderIsOne : Type 0
OrderIsOne = (before one other : List (ℕ × List ℕ)) → IsByFirst before one → IsByFirst before other → one ≡ other
