-- Row numbers that may be missing, in a column.
use Rattle.std.specs.Prelude.{ℕ, List, [], map, Option, pos}
use Rattle.gb_defs.specs.Column.{ColumnValue, fresh_column}
use Rattle.gb_defs.specs.ColumnType.{uint32}
use Rattle.gb_values.specs.Array.{native_slot}

-- a column of row numbers with no name, null where a row is missing
abbrev pub rows_column : List (Option ℕ) → ColumnValue
rows_column rows = fresh_column [] uint32 (map (native_slot (λ n. pos n)) rows)
