use Rattle.std.proofs.Common.{◌<◌, ◌∙◌, ap, [], arith, length}
use Rattle.std.proofs.lemmas.List.{length-map}
use Rattle.gb_defs.specs.CellText.{cell_text, number_text}
use Rattle.gb_defs.specs.ColumnType.{Flat}
use Rattle.gb_defs.specs.Slot.{Num}
use Rattle.gb_values.proofs.NumberLemmas.{number_at}
use Rattle.gb_values.proofs.primitive.NumberValuesValues.write_cell.Goals as goal

pub returns : goal.returns
returns g c =
    let t = Flat g.T.Native.Native.flat in
    let numbers = c.args.self.now in
    let lt : c.args.i < length numbers = omega (arith, c.requires, length-map numbers (λ n. Num n)) in
    let cell = ap (number_text t) c.get.ensures ∙ ap (cell_text [] t) (number_at numbers c.args.i lt) in
    rw cell at c.write_number.ensures
