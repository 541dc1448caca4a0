use Rattle.std.proofs.Common.{◌≡◌}
use Rattle.gb_defs.specs.Classes.{firsts, rows_below}
use Rattle.gb_defs.specs.Slow.{same_key}
use Rattle.gb_defs.proofs.slow.firsts.Given as goal

abbrev pub invariant-loop-row : goal.invariant-loop-row
invariant-loop-row l = l.rows.items ≡ firsts (same_key l.keys) (rows_below l.row)
