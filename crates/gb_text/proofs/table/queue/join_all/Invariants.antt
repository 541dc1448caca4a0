use Rattle.std.proofs.Common.{◌≡◌}
use Rattle.gb_text.specs.Queue.{StaysQueue}
use Rattle.gb_text.proofs.table.queue.join_all.Given as goal

abbrev pub invariant-loop : goal.invariant-loop
invariant-loop g l = record {
  stays : StaysQueue l.fn.ahead.jobs.items l.fn.ahead.held.items l.fn.columns.items l.ahead.jobs.items l.ahead.held.items l.columns.items;
  held : l.ahead.held.items ≡ l.fn.ahead.held.items;
}
