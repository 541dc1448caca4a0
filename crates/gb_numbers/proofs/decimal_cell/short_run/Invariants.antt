use Rattle.std.proofs.Common.{◌≡◌, length}
use Rattle.std.specs.Str.Parse.{digits_value_after}
use Rattle.gb_numbers.specs.Decimal.{FitsShort, front_digits, behind_digits}
use Rattle.gb_numbers.proofs.decimal_cell.short_run.Given as goal

abbrev pub invariant-loop-digit : goal.invariant-loop-digit
invariant-loop-digit l = record {
  number : digits_value_after 10 l.value (front_digits l.left) ≡ digits_value_after 10 l.before (front_digits l.bytes);
  behind : behind_digits l.left ≡ behind_digits l.bytes;
  fits : FitsShort l.value l.left;
}

abbrev pub decreases-loop-digit : goal.decreases-loop-digit
decreases-loop-digit l = length l.left
