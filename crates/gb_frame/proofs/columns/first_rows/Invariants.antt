use Rattle.std.proofs.Common.{◌≡◌, map, take}
use Rattle.gb_defs.specs.Groups.{first_of}
use Rattle.gb_frame.proofs.columns.first_rows.Given as goal

abbrev pub invariant-loop-place : goal.invariant-loop-place
invariant-loop-place l = l.rows.items ≡ map first_of (take l.place l.groups.pairs)
