use Rattle.std.proofs.Common.{sym, subst}
use Rattle.gb_defs.specs.Column.{ColumnValue, IsFlagTrue}
use Rattle.gb_defs.specs.ColumnType.{ColumnType}
use Rattle.gb_base.specs.Sorted.{flag_of}
use Rattle.gb_logical.proofs.CategoryLemmas.{codes_in_order}
use Rattle.gb_logical.proofs.LogicalLemmas.{flag_alike, orders_back}
use Rattle.gb_logical.proofs.categorical.CategoricalChunkedSeriesTrait.set_sorted_flag.Goals as goal

pub set_sorted_flag-requires : goal.set_sorted_flag-requires
set_sorted_flag-requires c =
    let slots = c.self.inside.physical.slots in
    let flag = flag_of c.args.sorted in
    let asked = subst (λ (v : ColumnValue). IsFlagTrue flag v.dtype v.slots) (sym c.self.view_is) c.requires in
    let orders = codes_in_order _ _ c.self.inside.is_enum in
    let stored = flag_alike _ _ (orders_back _ _ orders) flag slots asked in
    subst (λ (t : ColumnType). IsFlagTrue flag t slots) (sym c.self.invariant.typed) stored
