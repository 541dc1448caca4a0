use Rattle.std.proofs.Common.{subst}
use Rattle.gb_defs.specs.Column.{ColumnValue, IsFlagTrue}
use Rattle.gb_defs.specs.ColumnType.{ColumnType}
use Rattle.gb_logical.proofs.LogicalLemmas.{flag_alike, stands_in_order}
use Rattle.gb_logical.proofs.logical.LogicalSeriesTrait.is_sorted_flag.Goals as goal

pub returns-clause-holds : goal.returns-clause-holds
returns-clause-holds g c =
    let column = c.self.inside.physical in
    let kind = c.self.inside.kind in
    let stored = subst (λ (t : ColumnType). IsFlagTrue column.sorted t column.slots) c.self.invariant c.is_sorted_flag.ensures.holds in
    let holds = flag_alike _ _ (stands_in_order _ _ (g.met.K.LogicalKind.stands kind) _ g.met.K.Physical.Native.Native.whole) column.sorted column.slots stored in
    subst (λ (v : ColumnValue). IsFlagTrue v.sorted v.dtype v.slots) c.self.view_is holds
