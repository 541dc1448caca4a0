-- Groups as runs of rows, each the list of its first row and its length.
use Rattle.std.specs.Prelude.{ℕ, ◌+◌, ◌<◌, ◌^◌, List, map, slice_index, All, Bool, true}
use Rattle.std.specs.List.{range_with_len}
use Rattle.std.specs.List.Sorted.{IsNonDecreasing}
use Rattle.gb_defs.specs.Groups.{Grouping, Slice}

abbrev pub start_of : List ℕ → ℕ
start_of slice = slice_index slice 0

abbrev pub length_of : List ℕ → ℕ
length_of slice = slice_index slice 1

-- the ends are numbers of rows, and the starts never descend
pub record SlicesFit (slices : List (List ℕ)) : Type 0 where
  pub ends : All (λ slice. start_of slice + length_of slice < 2 ^ 32) slices
  pub ascend : IsNonDecreasing (map start_of slices)

-- the group that is a run
abbrev pub slice_pair : List ℕ → ℕ × List ℕ
slice_pair slice = (start_of slice, range_with_len (start_of slice) (length_of slice))

abbrev pub slice_pairs : List (List ℕ) → List (ℕ × List ℕ)
slice_pairs slices = map slice_pair slices

-- groups that are runs, which may overlap where they roll
abbrev pub slice_groups : List (List ℕ) → Bool → Grouping
slice_groups slices rolling = record { pairs = slice_pairs slices; form = Slice rolling; flagged = true }
