use Rattle.std.proofs.Common.{◌≡◌, ◌+◌, ◌/◌, ◌≤◌, ◌++◌, length, option_map, take}
use Rattle.gb_defs.specs.Cell.{hexadecimal}
use Rattle.gb_numbers.proofs.hex_cell.push_pairs.Given as goal

abbrev pub invariant-loop-high : goal.invariant-loop-high
invariant-loop-high l = record {
  took : option_map (λ more. l.bytes.items ++ more) (hexadecimal l.left) ≡ option_map (λ more. l.fn.bytes.items ++ more) (hexadecimal l.fn.cell);
  kept : take l.fn.bytes.len l.bytes.items ≡ l.fn.bytes.items;
  long : l.fn.bytes.len ≤ l.bytes.len;
  room : l.bytes.len + length l.left / 2 ≤ l.bytes.cap;
}

abbrev pub decreases-loop-high : goal.decreases-loop-high
decreases-loop-high l = length l.left
