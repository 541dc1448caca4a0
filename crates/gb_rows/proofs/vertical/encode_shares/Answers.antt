use Rattle.std.proofs.Common.{◌∙◌, map}
use Rattle.gb_defs.specs.Flat.{range_at}
use Rattle.gb_rows.specs.Lent.{lent_cells}
use Rattle.gb_rows.proofs.LentLemmas.{same_share}
use Rattle.gb_rows.proofs.vertical.encode_shares.Goals as goal

pub returns-clause-each : goal.returns-clause-each
returns-clause-each g c = λ k d lt.
    (c.in_ok-map_shares.ensures.each k d lt).1.0
    ∙ same_share (map lent_cells c.args.keys.now) c.nulls_among-nulls.result c.args.nulls (range_at c.args.height c.args.workers k) c.nulls_among-nulls.ensures
