-- What columns are aggregated over.
use Rattle.std.specs.Prelude.{◌≡◌, ℕ, true, length}
use Rattle.gb_defs.specs.Groups.{Grouping}
use Rattle.gb_paths.specs.Numbering.{numbered}
use Rattle.gb_agg.specs.Method.{goes_by_numbers}
use Rattle.gb_agg.specs.declared.method.GroupByMethod.{GroupByMethod}
use Rattle.gb_agg.specs.declared.over.Over.{Over}
use Rattle.gb_agg.specs.declared.over.Over.TheVariants.{Groups, Numbers}

-- the groups, whichever way they are told
abbrev pub grouping_over : Over → Grouping
grouping_over (Groups groups) = groups
grouping_over (Numbers numbers) = numbered numbers.now

-- an aggregate that can be made over them
abbrev pub Takes : Over → GroupByMethod → Type 0
Takes (Groups groups) method = Unit {0}
Takes (Numbers numbers) method = goes_by_numbers method ≡ true

-- numbers are those of so many rows
abbrev pub NumberRows : ℕ → Over → Type 0
NumberRows rows (Groups groups) = Unit {0}
NumberRows rows (Numbers numbers) = length numbers.now.of_rows.items ≡ rows
