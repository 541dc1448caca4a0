use Rattle.std.proofs.Common.{◌≡◌, take}
use Rattle.gb_defs.specs.ColumnType.{int64}
use Rattle.gb_defs.specs.Fold.{wrap, total, valid, picked}
use Rattle.gb_defs.specs.Slow.{value_slots}
use Rattle.gb_defs.proofs.slow.sum.Given as goal

abbrev pub invariant-loop-row : goal.invariant-loop-row
invariant-loop-row l = l.sum ≡ wrap int64 (total (valid (picked (value_slots l.values) (take l.row-index l.rows))))
