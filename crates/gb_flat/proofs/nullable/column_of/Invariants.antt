use Rattle.std.proofs.Common.{◌≡◌, take}
use Rattle.gb_flat.specs.Nullable.{rows_column}
use Rattle.gb_flat.proofs.nullable.column_of.Given as goal

abbrev pub invariant-loop-row : goal.invariant-loop-row
invariant-loop-row l = l.column ≡ rows_column (take l.row-index l.rows)
