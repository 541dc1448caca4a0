use Rattle.std.proofs.Common.{List, ℕ, subst, sym}
use Rattle.gb_defs.specs.Slices.{between}
use Rattle.gb_rows.proofs.AlikeLemmas.{typed_cells}
use Rattle.gb_rows.proofs.logical_cells.LogicalRowCells.put_cells.Goals as goal

pub returns : goal.returns
returns g c =
    let same = typed_cells c.args.self.now c.physical.result.now (g.K.LogicalKind.flat c.kind.result) g.K.Physical.Native.Native.flat c.physical.ensures.column c.kind.ensures.kind c.physical.ensures.typed (g.met.K.RowKind.alike c.kind.result) in
    subst (λ (cells : List (List ℕ)). g.S.CellSink.HasTaken (between c.args.start c.args.end cells) c.args.sink.now c.put_cells.new.sink) (sym same) c.in_ok-put_cells.ensures
