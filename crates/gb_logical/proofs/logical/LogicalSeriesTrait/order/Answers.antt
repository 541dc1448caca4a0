use Rattle.std.proofs.Common.{ap, sym}
use Rattle.gb_defs.specs.Column.{ColumnValue}
use Rattle.gb_logical.proofs.LogicalLemmas.{order_alike, stands_in_order}
use Rattle.gb_logical.proofs.logical.LogicalSeriesTrait.order.Goals as goal

pub returns : goal.returns
returns g c =
    let kind = c.self.inside.kind in
    let orders = stands_in_order _ _ (g.met.K.LogicalKind.stands kind) _ g.met.K.Physical.Native.Native.whole in
    let typed = ap (λ (v : ColumnValue). v.dtype) (sym c.self.view_is) in
    let same = ap (λ (v : ColumnValue). v.slots) (sym c.self.view_is) in
    order_alike _ _ orders c.self.inside.physical _ c.order.result c.self.invariant typed same c.order.ensures
