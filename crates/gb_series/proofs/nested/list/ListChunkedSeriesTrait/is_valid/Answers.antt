use Rattle.std.proofs.Common.{◌∙◌, ap, arith, false, not, length, subst, sym, ◌<◌}
use Rattle.gb_defs.specs.Column.{ColumnValue}
use Rattle.gb_defs.specs.Slot.{is_nil, slot_at}
use Rattle.gb_series.specs.Series.{value_of}
use Rattle.gb_series.proofs.ListLemmas.{flag_inside}
use Rattle.gb_series.proofs.RowLemmas.{get_or_any, row_valid}
use Rattle.gb_series.proofs.nested.list.ListChunkedSeriesTrait.is_valid.Goals as goal

pub index-requires : goal.index-requires
index-requires c =
    let in_self = c.self.inside in
    let inside = subst (λ (v : ColumnValue). c.args.row < length v.slots) (sym c.self.view_is) c.requires in
    omega (arith, flag_inside in_self.rows in_self.present.items in_self.ends.items (value_of in_self.items) c.self.invariant c.args.row inside, in_self.present.ok.0)

pub returns : goal.returns
returns c =
    let in_self = c.self.inside in
    let flags = in_self.present.items in
    let inside = subst (λ (v : ColumnValue). c.args.row < length v.slots) (sym c.self.view_is) c.requires in
    let lt = flag_inside in_self.rows flags in_self.ends.items (value_of in_self.items) c.self.invariant c.args.row inside in
    c.index.ensures ∙ get_or_any flags c.args.row _ false lt ∙ row_valid flags _ c.args.row
    ∙ ap (λ v. not (is_nil (slot_at v.slots c.args.row))) c.self.view_is
