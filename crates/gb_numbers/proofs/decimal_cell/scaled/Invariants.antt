use Rattle.std.proofs.Common.{◌≡◌, ◌*◌, ◌^◌, ◌<◌}
use Rattle.gb_numbers.proofs.decimal_cell.scaled.Given as goal

abbrev pub invariant-loop : goal.invariant-loop
invariant-loop l = (l.product ≡ l.number * 10 ^ l.counter) × (0 < l.number)
