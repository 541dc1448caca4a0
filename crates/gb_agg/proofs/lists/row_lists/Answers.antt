use Rattle.std.proofs.Common.{◌∙◌, List, ℕ, ap, map}
use Rattle.std.proofs.lemmas.Result.{IfOk-weaker}
use Rattle.gb_base.specs.PlSmallStr.{name_of}
use Rattle.gb_defs.specs.Column.{ColumnValue}
use Rattle.gb_defs.specs.Fold.{number_slot}
use Rattle.gb_defs.specs.Groups.{lists_in}
use Rattle.gb_series.specs.Series.{value_of}
use Rattle.gb_agg.proofs.ListedLemmas.{rows_listed}
use Rattle.gb_agg.proofs.lists.row_lists.Goals as goal

pub returns-clause-ok : goal.returns-clause-ok
returns-clause-ok c =
    let items = c.into_series-items.ensures ∙ c.in_ok-from_slice.ensures.ok in
    let slots = ap (λ (v : ColumnValue). v.slots) items ∙ ap (λ (rs : List ℕ). map number_slot rs) c.deref.ensures.value in
    let listed = rows_listed (name_of c.args.name) (value_of c.into_series-items.result) (lists_in c.args.groups.now) _ _ (ap (λ (v : ColumnValue). v.dtype) items) slots c.in_ok-rows.ensures in
    IfOk-weaker c.from_lists.result _ _ (λ s e. e ∙ c.in_ok-lists.ensures.ok ∙ listed) c.from_lists.ensures.ok
