use Rattle.std.proofs.Common.{◌∙◌, ap, map, subst}
use Rattle.gb_series.specs.Series.{value_of}
use Rattle.gb_rows.specs.Rows.{row_slots}
use Rattle.gb_rows.specs.Told.{AreToldByRows}
use Rattle.gb_paths.proofs.RowBytesLemmas.{rows_stand_for}
use Rattle.gb_paths.proofs.keys.nested_keys.Goals as goal

pub returns-clause-ok : goal.returns-clause-ok
returns-clause-ok c =
    let key = c.from_ref.ensures.value in
    let same = ap (λ v. v.slots) c.in_ok-rows.ensures.ok ∙ ap (λ l. row_slots (map value_of l)) key in
    let told = subst (λ l. AreToldByRows (map value_of l)) key c.in_ok-rows.ensures.told in
    rows_stand_for (value_of c.args.key.now) c.in_ok-rows.rows c.requires same told
