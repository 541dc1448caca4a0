use Rattle.std.proofs.Common.{◌≤◌, ◌≡◌, ℕ, List, Option, [], IfSome}
use Rattle.std.specs.Bool.{OnTrue}
use Rattle.std.specs.Str.{IsAscii}
use Rattle.gb_text.specs.Queue.{IsQueuedBy}
use Rattle.gb_text.proofs.table.queue.read_ahead.Given as goal

abbrev pub invariant-rounds : goal.invariant-rounds
invariant-rounds g l = record {
  went :
      (first : Option (List ℕ))
      → IsQueuedBy l.reading l.header l.limit first (g.S.Source.left l.fn.source) l.fn.now.read l.fn.ahead.jobs.items l.fn.ahead.held.items l.fn.columns.items
      → IsQueuedBy l.reading l.header l.limit first (g.S.Source.left l.source) l.now.read l.ahead.jobs.items l.ahead.held.items l.columns.items;
  ends : OnTrue l.now.ended (IfSome (g.S.Source.left l.source) (λ rest. rest ≡ []));
  ascii : OnTrue l.now.ascii (IsAscii l.ahead.held.items);
  kept : g.S.Source.faults l.fn.source ≤ g.S.Source.faults l.source;
}
