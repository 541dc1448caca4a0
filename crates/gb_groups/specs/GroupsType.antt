-- Groups in the form that they have, as contracts see them.
use Rattle.gb_defs.specs.Groups.{Grouping}
use Rattle.gb_groups.specs.declared.groups_type.GroupsType.{GroupsType}
use Rattle.gb_groups.specs.declared.groups_type.GroupsType.TheVariants.{Idx, Slice}
use Rattle.gb_groups.specs.Slices.{slice_groups}

abbrev pub groups_of : GroupsType → Grouping
groups_of (Idx groups) = groups
groups_of (Slice groups rolling) = slice_groups groups rolling
