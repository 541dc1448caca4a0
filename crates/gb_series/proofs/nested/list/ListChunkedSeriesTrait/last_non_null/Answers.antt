use Rattle.std.proofs.Common.{Bool, List, MatchOption, subst}
use Rattle.std.specs.List.{All}
use Rattle.gb_defs.specs.Column.{ColumnValue, IsLastValid}
use Rattle.gb_series.specs.Series.{value_of}
use Rattle.gb_values.specs.Valid.{IsNull}
use Rattle.gb_series.specs.Rows.{IsAbsent, IsLastPresent, pieces_to}
use Rattle.gb_series.proofs.RowLemmas.{last_valid}
use Rattle.gb_series.proofs.nested.list.ListChunkedSeriesTrait.last_non_null.Goals as goal

pub returns : goal.returns
returns c =
    let in_self = c.self.inside in
    let found = c.last_present.result in
    let flags = subst (λ (p : List Bool). MatchOption found (All IsAbsent p) (IsLastPresent p)) c.deref.ensures.value c.last_present.ensures in
    subst (λ (v : ColumnValue). MatchOption found (All IsNull v.slots) (IsLastValid v.slots)) c.self.view_is
    (last_valid in_self.present.items (pieces_to 0 in_self.ends.items (value_of in_self.items).slots) found flags)
