use Rattle.std.proofs.Common.{◌∙◌, ap, sym}
use Rattle.gb_defs.specs.CellText.{cell_text}
use Rattle.gb_defs.specs.Slot.{slot_at}
use Rattle.gb_cols.proofs.chunked.ChunkedArraySeriesTrait.write_cell.Goals as goal

pub returns : goal.returns
returns g c =
    let word = c.args.null_word.now in
    let column = c.args.self.now in
    let cell = ap (cell_text word g.V.Values.dtype) c.locate-place.ensures.slot ∙ ap (λ t. cell_text word t (slot_at column.slots c.args.row)) (sym c.locate-place.ensures.typed) in
    rw cell at c.write_cell.ensures
