use Rattle.std.proofs.Common.{◌∙◌, ◌↔◌, IsTrue, List, ℕ, Option, ap, sym, subst, length}
use Rattle.gb_defs.specs.Column.{ColumnValue, UsesAll, UsesCodes}
use Rattle.gb_cols.specs.Codes.{HoldsAll}
use Rattle.gb_base.specs.DataType.{ordering_of}
use Rattle.gb_logical.proofs.CategoryLemmas.{categories_are}
use Rattle.gb_logical.proofs.categorical.CategoricalChunked.check_all_used.Goals as goal

pub returns : goal.returns
returns c =
    let texts = c.self.inside.map.value in
    let slots = c.self.inside.physical.slots in
    let told = c.codes_used.result in
    let count = c.len.ensures.value ∙ ap length c.deref.ensures in
    let tells = subst (λ (n : ℕ). IsTrue told ↔ HoldsAll n slots) count c.codes_used.ensures in
    subst (λ (v : ColumnValue). IsTrue told ↔ UsesAll v.dtype v.slots) c.self.view_is
    (subst (λ (known : Option (List (List ℕ))). IsTrue told ↔ UsesCodes known slots) (sym (categories_are texts (ordering_of c.self.inside.ordering) c.self.inside.is_enum)) tells)
