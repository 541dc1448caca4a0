use Rattle.std.proofs.Common.{◌≡◌, ◌+◌, ◌-◌, ◌*◌, ◌≤◌, ◌++◌, length, take}
use Rattle.gb_defs.specs.CellText.{hexadecimal_text}
use Rattle.gb_numbers.proofs.hex_cell.write_hexadecimal.Given as goal

abbrev pub invariant-loop-byte : goal.invariant-loop-byte
invariant-loop-byte l = record {
  more : l.to.items ≡ l.fn.to.items ++ hexadecimal_text (take l.byte-index l.value);
  room : l.to.len + 2 * (length l.value - l.byte-index) ≤ l.to.cap;
}
