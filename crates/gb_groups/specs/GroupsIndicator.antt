-- The group that is shown, as contracts see a group: its first row with its rows.
use Rattle.std.specs.Prelude.{ℕ, List}
use Rattle.gb_groups.specs.declared.groups_type.GroupsIndicator.{GroupsIndicator}
use Rattle.gb_groups.specs.declared.groups_type.GroupsIndicator.TheVariants.{Idx, Slice}
use Rattle.gb_groups.specs.Groups.{lent_pair}
use Rattle.gb_groups.specs.Slices.{slice_pair}

abbrev pub pair_of : GroupsIndicator → ℕ × List ℕ
pair_of (Idx item) = lent_pair item
pair_of (Slice slice) = slice_pair slice
