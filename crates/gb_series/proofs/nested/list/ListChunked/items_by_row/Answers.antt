use Rattle.std.proofs.Common.{List, ℕ, ap, subst, sym}
use Rattle.gb_defs.specs.Column.{ColumnValue}
use Rattle.gb_series.specs.Rows.{AreRowsOf}
use Rattle.gb_series.specs.Series.{value_of}
use Rattle.gb_series.proofs.ListLemmas.{are_rows}
use Rattle.gb_series.proofs.nested.list.ListChunked.items_by_row.Goals as goal

pub returns-clause-rows : goal.returns-clause-rows
returns-clause-rows c =
    let own = c.self.inside in
    let items = value_of own.items in
    subst (λ (es : List ℕ). AreRowsOf c.args.self.now.slots items.slots es) (sym c.as_slice.ensures.value)
    (subst (λ (v : ColumnValue). AreRowsOf v.slots items.slots own.ends.items) c.self.view_is (are_rows own.rows own.present.items own.ends.items items c.self.invariant))
