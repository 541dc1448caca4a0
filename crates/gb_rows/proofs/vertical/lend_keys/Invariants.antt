use Rattle.std.proofs.Common.{◌≡◌, map, take}
use Rattle.gb_rows.specs.Cells.{cells_of}
use Rattle.gb_rows.specs.Lent.{keys_in, lent_cells}
use Rattle.gb_rows.specs.Told.{FitTypes}
use Rattle.gb_rows.proofs.vertical.lend_keys.Given as goal

-- the keys so far
abbrev pub invariant-loop-key : goal.invariant-loop-key
invariant-loop-key l = record {
  cells : map lent_cells l.made.items ≡ map cells_of (keys_in (take l.key-index l.by));
  fits : FitTypes (keys_in (take l.key-index l.by));
}
