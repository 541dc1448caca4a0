use Rattle.std.proofs.Common.{◌<◌, ◌∙◌, ap, [], arith, length}
use Rattle.std.proofs.lemmas.List.{length-map}
use Rattle.gb_defs.specs.CellText.{bytes_text, cell_text}
use Rattle.gb_defs.specs.ColumnType.{Flat}
use Rattle.gb_defs.specs.Slot.{Bytes}
use Rattle.gb_values.proofs.ValueLemmas.{value_at}
use Rattle.gb_values.proofs.bytes.ByteValuesValues.write_cell.Goals as goal

pub returns : goal.returns
returns g c =
    let t = Flat g.K.ByteKind.flat in
    let values = c.args.self.now in
    let lt : c.args.i < length values = omega (arith, c.requires, length-map values (λ bytes. Bytes bytes)) in
    let cell = ap (bytes_text t) c.bytes_at.ensures.value ∙ ap (cell_text [] t) (value_at (λ bytes. Bytes bytes) values [] c.args.i lt) in
    rw cell at c.write_cell.ensures
