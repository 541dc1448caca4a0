use Rattle.std.specs.List.{All}
use Rattle.gb_defs.specs.Column.{ColumnValue}
use Rattle.std.proofs.Common.{◌<◌, subst, sym, length}
use Rattle.gb_logical.proofs.CategoryLemmas.{taken_codes}
use Rattle.gb_logical.proofs.categorical.CategoricalChunkedSeriesTrait.take.Goals as goal

pub invariant_of-result : goal.invariant_of-result
invariant_of-result c = rw (c.in_ok-try_clone.ensures, c.in_ok-take.ensures.ok)
    (taken_codes c.self.invariant c.args.rows.now (subst (λ (v : ColumnValue). All (λ row. row < length v.slots) c.args.rows.now) (sym c.self.view_is) c.requires))
