use Rattle.std.proofs.Common.{◌∙◌, ◌<◌, ap, arith, false, not, length, map, subst, sym}
use Rattle.gb_defs.specs.Column.{ColumnValue}
use Rattle.gb_defs.specs.Slot.{is_nil, slot_at}
use Rattle.gb_series.specs.Series.{value_of}
use Rattle.gb_series.proofs.StructLemmas.{flag_inside}
use Rattle.gb_series.proofs.RowLemmas.{get_or_any, row_valid}
use Rattle.gb_series.proofs.nested.structs.StructChunkedSeriesTrait.is_valid.Goals as goal

pub index-requires : goal.index-requires
index-requires c =
    let own = c.self.inside in
    let frame = map value_of own.fields.items in
    let inside = subst (λ (v : ColumnValue). c.args.row < length v.slots) (sym c.self.view_is) c.requires in
    let lt = flag_inside own.rows own.present.items frame c.self.invariant c.args.row inside in
    omega (arith, lt, own.present.ok.0)

pub returns : goal.returns
returns c =
    let own = c.self.inside in
    let frame = map value_of own.fields.items in
    let inside = subst (λ (v : ColumnValue). c.args.row < length v.slots) (sym c.self.view_is) c.requires in
    let lt = flag_inside own.rows own.present.items frame c.self.invariant c.args.row inside in
    c.index.ensures ∙ get_or_any own.present.items c.args.row _ false lt ∙ row_valid own.present.items _ c.args.row
    ∙ ap (λ v. not (is_nil (slot_at v.slots c.args.row))) c.self.view_is
