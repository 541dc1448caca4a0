-- The groups that are left, as contracts see them.
use Rattle.std.specs.Prelude.{ℕ, List}
use Rattle.gb_groups.specs.declared.iter.Left.{Left}
use Rattle.gb_groups.specs.declared.iter.Left.TheVariants.{Idx, Slice}
use Rattle.gb_groups.specs.Slices.{slice_pairs}

abbrev pub left_pairs : Left → List (ℕ × List ℕ)
left_pairs (Idx groups) = groups
left_pairs (Slice slices) = slice_pairs slices.now
