use Rattle.std.proofs.Common.{ap, sym}
use Rattle.gb_defs.specs.Column.{ColumnValue}
use Rattle.gb_compare.proofs.PlacedLemmas.{like_meant, placed_like}
use Rattle.gb_compare.proofs.columns.LogicalTotalOrdInner.cmp_element.Goals as goal

pub returns : goal.returns
returns g c =
    let column = c.args.self.now in
    let stored = c.physical.result.now in
    let same = ap (λ (v : ColumnValue). v.slots) (sym c.physical.ensures.column) in
    let stands = g.met.K.LogicalKind.stands c.kind.result in
    let like = like_meant column stored g.K.Physical.Native.Native.flat (g.K.LogicalKind.flat c.kind.result) stands same c.physical.ensures.typed c.kind.ensures.kind in
    placed_like column stored c.args.nulls_last c.args.idx_a c.args.idx_b c.cmp_element.result like c.cmp_element.ensures
