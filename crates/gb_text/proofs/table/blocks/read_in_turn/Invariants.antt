use Rattle.std.proofs.Common.{◌≤◌, ◌≡◌, List, Option, ℕ, [], IfSome}
use Rattle.std.specs.Bool.{OnTrue}
use Rattle.std.specs.Str.{IsAscii}
use Rattle.gb_text.specs.Stream.{IsReadBy}
use Rattle.gb_text.proofs.table.blocks.read_in_turn.Given as goal

abbrev pub invariant-rounds : goal.invariant-rounds
invariant-rounds g l = record {
  went :
      (first : Option (List ℕ))
      → IsReadBy l.reading l.header l.limit first (g.S.Source.left l.fn.source) l.fn.now.read l.fn.held.items l.fn.columns.items
      → IsReadBy l.reading l.header l.limit first (g.S.Source.left l.source) l.window.now.read l.window.held.items l.columns.items;
  ends : OnTrue l.window.now.ended (IfSome (g.S.Source.left l.source) (λ rest. rest ≡ []));
  ascii : OnTrue l.window.now.ascii (IsAscii l.window.held.items);
  kept : g.S.Source.faults l.fn.source ≤ g.S.Source.faults l.source;
}
