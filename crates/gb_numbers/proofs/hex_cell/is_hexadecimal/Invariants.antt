use Rattle.std.proofs.Common.{◌≡◌, is_some, length}
use Rattle.gb_defs.specs.Cell.{hexadecimal}
use Rattle.gb_numbers.proofs.hex_cell.is_hexadecimal.Given as goal

abbrev pub invariant-loop-high : goal.invariant-loop-high
invariant-loop-high l = is_some (hexadecimal l.left) ≡ is_some (hexadecimal l.fn.cell)

abbrev pub decreases-loop-high : goal.decreases-loop-high
decreases-loop-high l = length l.left
