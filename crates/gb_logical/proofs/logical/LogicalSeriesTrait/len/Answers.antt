use Rattle.std.proofs.Common.{subst}
use Rattle.std.specs.List.{All}
use Rattle.gb_defs.specs.Column.{ColumnValue}
use Rattle.gb_defs.specs.ColumnType.{ColumnType, Fits}
use Rattle.gb_logical.proofs.LogicalLemmas.{all_fit}
use Rattle.gb_logical.proofs.logical.LogicalSeriesTrait.len.Goals as goal

pub returns-clause-fitting : goal.returns-clause-fitting
returns-clause-fitting g c =
    let column = c.self.inside.physical in
    let kind = c.self.inside.kind in
    let stored = subst (λ (t : ColumnType). All (Fits t) column.slots) c.self.invariant c.len.ensures.fitting in
    let all = all_fit _ _ (g.met.K.LogicalKind.stands kind) _ g.met.K.Physical.Native.Native.whole column.slots stored in
    subst (λ (v : ColumnValue). All (Fits v.dtype) v.slots) c.self.view_is all
