use Rattle.std.proofs.Common.{◌≡◌, ◌+◌, ◌-◌, ◌++◌, ◌≤◌, take}
use Rattle.gb_runs.specs.Codes.{numbers_of}
use Rattle.gb_runs.proofs.codes.push_numbers.Given as goal

abbrev pub invariant-loop-row : goal.invariant-loop-row
invariant-loop-row g l = record {
  so_far : l.numbers.items ≡ l.fn.numbers.items ++ numbers_of l.count (take l.row l.chunk);
  room : l.numbers.len + (l.rows - l.row) ≤ l.numbers.cap;
}
