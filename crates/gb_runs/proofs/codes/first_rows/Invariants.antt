use Rattle.std.proofs.Common.{◌≡◌, ◌≤◌, length, take, vec_capacity}
use Rattle.gb_groups.specs.Groups.{lists_of}
use Rattle.gb_runs.specs.Codes.{heads_of}
use Rattle.gb_runs.proofs.codes.first_rows.Given as goal

abbrev pub invariant-loop-rows : goal.invariant-loop-rows
invariant-loop-rows l = record {
  so_far : l.first.items ≡ heads_of (lists_of (take l.rows-index l.lists));
  each : length l.first.items ≡ l.rows-index;
  room : length l.lists ≤ vec_capacity l.first;
}
