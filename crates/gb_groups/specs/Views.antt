-- Some groups that follow each other, as groups of their own.
use Rattle.std.specs.Prelude.{ℕ, ℤ, take, drop}
use Rattle.gb_defs.specs.Groups.{Grouping}
use Rattle.gb_defs.specs.Slices.{shown}

-- so many groups from a place on, in the form of all
abbrev pub part_from : Grouping → ℕ → ℕ → Grouping
part_from g start count = record { pairs = take count (drop start g.pairs); form = g.form; flagged = g.flagged }

-- the groups that a slice shows, in the form of all
abbrev pub sliced_groups : ℤ → ℕ → Grouping → Grouping
sliced_groups offset len g = record { pairs = shown g.pairs offset len; form = g.form; flagged = g.flagged }
