use Rattle.std.proofs.Common.{◌≤◌}
use Rattle.std.specs.Bool.{OnTrue}
use Rattle.std.specs.Str.{IsAscii}
use Rattle.gb_text.specs.Stream.{HasFilled}
use Rattle.gb_text.proofs.streams.fill.Given as goal

abbrev pub invariant-pieces : goal.invariant-pieces
invariant-pieces g l = record {
  within : l.now ≤ l.limit;
  filled : HasFilled l.fn.read l.now l.fn.held.items l.held.items (g.S.Source.left l.fn.source) (g.S.Source.left l.source);
  ascii : OnTrue l.ascii (IsAscii l.held.items);
  kept : g.S.Source.faults l.fn.source ≤ g.S.Source.faults l.source;
}
