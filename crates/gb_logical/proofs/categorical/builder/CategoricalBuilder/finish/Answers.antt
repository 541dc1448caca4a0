use Rattle.std.proofs.Common.{◌∙◌, List, ℕ, ap, false, true, refl}
use Rattle.gb_defs.specs.Column.{ColumnValue}
use Rattle.gb_defs.specs.ColumnType.{Flat}
use Rattle.gb_defs.specs.Table.{read_column}
use Rattle.gb_base.specs.DataType.{ordering_of}
use Rattle.gb_base.specs.PlSmallStr.{name_of}
use Rattle.gb_logical.specs.Categorical.{category_type, coded_as}
use Rattle.gb_logical.proofs.CodingLemmas.{all_below, all_used, coded_column}
use Rattle.gb_logical.proofs.categorical.builder.CategoricalBuilder.finish.Goals as goal

pub invariant_of-result : goal.invariant_of-result
invariant_of-result c =
    let coded = c.self.invariant.coded in
    rw (c.in_ok-new.ensures.ok, c.from_table-map.ensures, c.from_chunk.ensures) (record { typed = refl; below = all_below coded c.self.invariant.fitting; used = λ told. all_used coded })

pub returns-clause-ok : goal.returns-clause-ok
returns-clause-ok c =
    let texts = c.self.inside.known in
    let ordering = ordering_of c.self.inside.ordering in
    let t = λ (ts : List (List ℕ)). Flat (category_type false ts ordering) in
    ap (λ ts. coded_as (t ts) true c.from_chunk.result) (c.in_ok-new.ensures.ok ∙ c.from_table-map.ensures) ∙ ap (coded_as (t texts) true) c.from_chunk.ensures
    ∙ coded_column c.self.invariant.coded (name_of c.self.inside.name) ordering ∙ ap (λ (v : ColumnValue). read_column v.name v.dtype v.slots) c.self.view_is
