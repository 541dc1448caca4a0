use Rattle.std.proofs.Common.{ap, sym}
use Rattle.gb_defs.specs.Column.{ColumnValue}
use Rattle.gb_logical.proofs.CategoryLemmas.{codes_in_order}
use Rattle.gb_logical.proofs.LogicalLemmas.{order_alike}
use Rattle.gb_logical.proofs.categorical.CategoricalChunkedSeriesTrait.order.Goals as goal

pub returns : goal.returns
returns c =
    let orders = codes_in_order _ _ c.self.inside.is_enum in
    let typed = ap (λ (v : ColumnValue). v.dtype) (sym c.self.view_is) in
    let same = ap (λ (v : ColumnValue). v.slots) (sym c.self.view_is) in
    order_alike _ _ orders c.self.inside.physical _ c.order.result c.self.invariant.typed typed same c.order.ensures
