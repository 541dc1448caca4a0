use Rattle.std.proofs.Common.{List, ℕ, subst, sym}
use Rattle.gb_defs.specs.Slices.{between}
use Rattle.gb_rows.proofs.AlikeLemmas.{coded_cells}
use Rattle.gb_rows.proofs.logical_cells.CategoricalChunkedRowCells.put_cells.Goals as goal

pub returns : goal.returns
returns g c =
    let same = coded_cells c.args.self.now c.physical.result.now _ c.physical.ensures.column c.get_rev_map.ensures c.physical.ensures.typed in
    subst (λ (cells : List (List ℕ)). g.S.CellSink.HasTaken (between c.args.start c.args.end cells) c.args.sink.now c.put_cells.new.sink) (sym same) c.in_ok-put_cells.ensures
