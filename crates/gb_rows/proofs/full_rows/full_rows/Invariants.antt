use Rattle.std.proofs.Common.{◌≡◌, drop, map}
use Rattle.gb_defs.specs.Slices.{between}
use Rattle.gb_rows.specs.Cells.{still_full}
use Rattle.gb_rows.specs.Lent.{lent_cells}
use Rattle.gb_rows.specs.Rows.{laid}
use Rattle.gb_rows.proofs.full_rows.full_rows.Given as goal

-- with the keys that are left the flags come to what they come to with all
abbrev pub invariant-loop-key : goal.invariant-loop-key
invariant-loop-key l = laid still_full (map (between l.start l.end) (map lent_cells (drop l.key-index l.keys))) l.rows.full.items ≡ laid still_full (map (between l.start l.end) (map lent_cells l.keys)) l.initial.rows.full.items
