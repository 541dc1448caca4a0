use Rattle.std.proofs.Common.{take}
use Rattle.gb_series.specs.Rows.{AreItems}
use Rattle.gb_series.proofs.nested.rows.items_of_rows.Given as goal

abbrev pub invariant-loop-row : goal.invariant-loop-row
invariant-loop-row l = AreItems l.ends (take l.row-index l.rows) l.found.items l.places.items
