use Rattle.std.proofs.Common.{map, subst, sym}
use Rattle.gb_defs.specs.Column.{ColumnValue, Frame}
use Rattle.gb_series.specs.Series.{value_of}
use Rattle.gb_series.specs.Structs.{AreFieldsOf}
use Rattle.gb_series.proofs.StructLemmas.{are_fields}
use Rattle.gb_series.proofs.nested.structs.StructChunked.fields.Goals as goal

pub returns : goal.returns
returns c =
    let own = c.self.inside in
    let fields = map value_of own.fields.items in
    rw c.deref.ensures.value
    (subst (λ (v : ColumnValue). AreFieldsOf v fields) c.self.view_is (are_fields own.rows own.present.items fields c.self.invariant))
