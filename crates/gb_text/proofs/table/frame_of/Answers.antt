use Rattle.std.proofs.Common.{◌∙◌, ap, map, rules}
use Rattle.std.proofs.lemmas.Simd.{map-map}
use Rattle.gb_defs.specs.Column.{IsFrame, rechunked}
use Rattle.gb_series.specs.Series.{value_of}
use Rattle.gb_text.proofs.ChunkLemmas.{frame_rechunked}
use Rattle.gb_text.proofs.table.frame_of.Goals as goal

pub returns-in-Ok : goal.returns-in-Ok
returns-in-Ok c = ap (map rechunked) c.in-Ok.ensures.ok.0 ∙ map-map rechunked value_of c.in_ok-finished.field-0.items ∙ c.in_ok-finished.ensures

pub unreachable-requires : goal.unreachable-requires
unreachable-requires c =
    let columns = map value_of c.in_ok-finished.field-0.items in
    let read = map-map rechunked value_of c.in_ok-finished.field-0.items ∙ c.in_ok-finished.ensures in
    let frame : IsFrame columns = frame_rechunked columns (rw read c.requires.frame) in
    search (rules, frame)
