use Rattle.std.proofs.Common.{◌≡◌, ◌<◌, ◌^◌, drop}
use Rattle.gb_numbers.proofs.DigitLemmas.{magnitude_after}
use Rattle.gb_numbers.proofs.number_cell.long_magnitude.Given as goal

abbrev pub invariant-loop-digit : goal.invariant-loop-digit
invariant-loop-digit l = (magnitude_after (2 ^ 64) l.value (drop l.digit-index l.digits) ≡ magnitude_after (2 ^ 64) 0 l.digits) × (l.value < 2 ^ 64)
