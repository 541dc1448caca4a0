use Rattle.std.proofs.Common.{◌∙◌, map, ap, sym}
use Rattle.gb_rows.specs.Lent.{lent_cells, share_of_cells}
use Rattle.gb_rows.specs.Parts.{row_column}
use Rattle.gb_rows.proofs.PartLemmas.{share_broadcast, share_encoded}
use Rattle.gb_rows.proofs.vertical.encode_share.Goals as goal

pub returns-in-Encoded-clause-ok : goal.returns-in-Encoded-clause-ok
returns-in-Encoded-clause-ok c =
    let columns = map lent_cells c.args.keys.now in
    let range = c.args.range in
    c.into_array.ensures ∙ ap row_column (share_encoded columns range.0 range.1 c.in_ok-rows.rows c.in_ok-rows.ensures.ok)
    ∙ ap (λ nulls. share_of_cells nulls columns range) (sym c.in-Encoded.is)

pub returns-in_ok-full-in-Broadcast-clause-ok : goal.returns-in_ok-full-in-Broadcast-clause-ok
returns-in_ok-full-in-Broadcast-clause-ok c =
    let columns = map lent_cells c.args.keys.now in
    let range = c.args.range in
    c.into_nullable.ensures
    ∙ ap row_column (share_broadcast columns range.0 range.1 c.in_ok-rows.rows c.in_ok-rows.ensures.ok c.in_ok-full-in-Broadcast.full.items c.in_ok-full-in-Broadcast.ensures)
    ∙ ap (λ nulls. share_of_cells nulls columns range) (sym c.in-Broadcast.is)
