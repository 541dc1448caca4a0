use Rattle.std.proofs.Common.{◌≤◌, All, length, map, subst, sym}
use Rattle.gb_defs.specs.Column.{ColumnValue, frame_height}
use Rattle.gb_series.specs.Series.{value_of}
use Rattle.gb_rows.proofs.LengthLemmas.{all_long}
use Rattle.gb_rows.proofs.ToldLemmas.{told_by_rows}
use Rattle.gb_rows.proofs.unordered._get_rows_encoded_unordered.Goals as goal

pub encode_keys-requires : goal.encode_keys-requires
encode_keys-requires c =
    let keys = map value_of c.args.by.now in
    subst (λ n. All (λ (key : ColumnValue). n ≤ length key.slots) keys) (sym c.height_of.ensures) (all_long (frame_height keys) keys c.requires)

pub returns-clause-told : goal.returns-clause-told
returns-clause-told c = told_by_rows (map value_of c.args.by.now) c.requires c.tell_keys.ensures
