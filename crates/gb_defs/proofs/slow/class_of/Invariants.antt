use Rattle.std.proofs.Common.{◌≡◌}
use Rattle.gb_defs.specs.Classes.{class, rows_below}
use Rattle.gb_defs.specs.Slow.{same_key}
use Rattle.gb_defs.proofs.slow.class_of.Given as goal

abbrev pub invariant-loop-row : goal.invariant-loop-row
invariant-loop-row l = l.rows.items ≡ class (same_key l.keys) (rows_below l.row) l.of
