use Rattle.std.proofs.Common.{◌++◌, ◌∷◌, [], ap, subst, sym}
use Rattle.std.specs.List.{sum}
use Rattle.std.proofs.lemmas.List.{length-replicate}
use Rattle.gb_defs.specs.Column.{ColumnValue}
use Rattle.gb_defs.specs.Slot.{Nil}
use Rattle.gb_cols.specs.Null.{AreNulls}
use Rattle.gb_cols.proofs.NullLemmas.{nulls}
use Rattle.gb_cols.proofs.null.NullChunkedSeriesTrait.allocator.Goals as goal

pub returns-clause-nulls : goal.returns-clause-nulls
returns-clause-nulls c =
    let count = sum (c.self.inside.earlier.items ++ c.self.inside.last ∷ []) in
    subst (λ (v : ColumnValue). AreNulls v.slots) c.self.view_is (ap nulls (sym (length-replicate count Nil)))
