use Rattle.std.proofs.Common.{◌≡◌, ◌++◌, take}
use Rattle.gb_text.specs.Queue.{unread}
use Rattle.gb_text.proofs.table.queue.put_back.Given as goal

abbrev pub invariant-loop : goal.invariant-loop
invariant-loop g l = take l.fn.place l.fn.text.items ++ unread l.fn.ahead.jobs.items l.fn.ahead.held.items ≡ l.text.items ++ unread l.ahead.jobs.items l.ahead.held.items
