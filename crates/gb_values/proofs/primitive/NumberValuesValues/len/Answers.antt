use Rattle.std.proofs.Common.{List, ℤ, subst}
use Rattle.std.specs.List.{All}
use Rattle.gb_defs.specs.ColumnType.{FitsNumber}
use Rattle.gb_values.proofs.NumberLemmas.{numbers_fit}
use Rattle.gb_values.proofs.primitive.NumberValuesValues.len.Goals as goal

pub returns-clause-fitting : goal.returns-clause-fitting
returns-clause-fitting g c =
    let t = g.T.Native.Native.flat in
    numbers_fit t c.args.self.now (subst (λ (ns : List ℤ). All (FitsNumber t) ns) c.self.view_is c.self.invariant)
