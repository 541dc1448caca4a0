use Rattle.std.proofs.Common.{◌∙◌, ap, sym}
use Rattle.std.specs.List.{list_any}
use Rattle.gb_series.specs.Series.{value_of}
use Rattle.gb_rows.specs.Cells.{is_null_cell}
use Rattle.gb_rows.proofs.RowLemmas.{null_cells}
use Rattle.gb_rows.proofs.lent_key.LentKey.new.Goals as goal

pub invariant_of-result : goal.invariant_of-result
invariant_of-result c =
    let key = value_of c.args.key.now in
    record { nulls = c.has_nulls.ensures ∙ sym (null_cells key.dtype key.slots) ∙ ap (list_any is_null_cell) (sym c.in_ok-cells_of_key.ensures.ok) }
