use Rattle.std.proofs.Common.{length, map, ap, sym, ◌∙◌}
use Rattle.gb_rows.proofs.LaidLemmas.{count_of_lengths}
use Rattle.gb_rows.proofs.encode.encode.Goals as goal

pub write-requires-clause-each : goal.write-requires-clause-each
write-requires-clause-each g c =
    let columns = map g.C.RowCells.cells c.args.columns.now in
    ap length c.deref.ensures.value ∙ count_of_lengths columns c.args.start c.args.end c.in_ok-lengths.lengths.items c.in_ok-lengths.ensures

pub from_rows-requires : goal.from_rows-requires
from_rows-requires g c = ap (map length) c.in_ok-rows.ensures.rows ∙ sym c.in_ok-lengths.ensures ∙ sym (c.in_ok-rows.ensures.room ∙ c.deref.ensures.value)
