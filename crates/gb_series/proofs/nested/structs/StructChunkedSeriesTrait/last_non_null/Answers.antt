use Rattle.std.proofs.Common.{Bool, List, MatchOption, length, map, subst}
use Rattle.std.specs.List.{All}
use Rattle.gb_defs.specs.Column.{ColumnValue, IsLastValid}
use Rattle.gb_values.specs.Valid.{IsNull}
use Rattle.gb_series.specs.Series.{value_of}
use Rattle.gb_series.specs.Rows.{IsAbsent, IsLastPresent}
use Rattle.gb_series.specs.Structs.{rows_across}
use Rattle.gb_series.proofs.RowLemmas.{last_valid}
use Rattle.gb_series.proofs.nested.structs.StructChunkedSeriesTrait.last_non_null.Goals as goal

pub returns : goal.returns
returns c =
    let own = c.self.inside in
    let frame = map value_of own.fields.items in
    let found = c.last_present.result in
    let flags = subst (λ (p : List Bool). MatchOption found (All IsAbsent p) (IsLastPresent p)) c.deref.ensures.value c.last_present.ensures in
    subst (λ (v : ColumnValue). MatchOption found (All IsNull v.slots) (IsLastValid v.slots)) c.self.view_is
    (last_valid own.present.items (rows_across frame 0 (length own.present.items)) found flags)
