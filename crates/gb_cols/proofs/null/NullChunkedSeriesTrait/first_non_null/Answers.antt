use Rattle.std.proofs.Common.{◌≡◌, ◌++◌, ◌∷◌, [], None, refl, subst, sym}
use Rattle.std.specs.List.{position, sum}
use Rattle.std.proofs.lemmas.List.Elements.{All-replicate}
use Rattle.gb_defs.specs.Column.{ColumnValue, is_valid}
use Rattle.gb_defs.specs.Slot.{Nil}
use Rattle.gb_values.specs.Valid.{IsNull}
use Rattle.gb_cols.proofs.NullLemmas.{nulls}
use Rattle.gb_cols.proofs.ValidLemmas.{first_none}
use Rattle.gb_cols.proofs.null.NullChunkedSeriesTrait.first_non_null.Goals as goal

pub returns : goal.returns
returns c =
    let count = sum (c.self.inside.earlier.items ++ c.self.inside.last ∷ []) in
    subst (λ (v : ColumnValue). ◌≡◌ {A = _} None (position is_valid v.slots)) c.self.view_is (sym (first_none (nulls count) (All-replicate IsNull count Nil refl)))
