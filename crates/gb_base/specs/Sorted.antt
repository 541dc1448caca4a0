use Rattle.gb_defs.specs.Column as column
use Rattle.gb_base.specs.declared.data_type.IsSorted.{IsSorted}
use Rattle.gb_base.specs.declared.data_type.IsSorted.TheVariants.{Ascending, Descending, Not}

abbrev pub flag_of : IsSorted → column.SortedFlag
flag_of Ascending = column.Ascending
flag_of Descending = column.Descending
flag_of Not = column.NotSorted
