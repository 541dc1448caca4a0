use Rattle.std.proofs.Common.{◌≡◌, ◌∙◌, Bool, true, false, not, List, ℕ, ap, refl, subst, sym}
use Rattle.std.proofs.lemmas.Result.{IfOk-weaker}
use Rattle.gb_base.specs.PlSmallStr.{name_of}
use Rattle.gb_defs.specs.Answer.{answer_name}
use Rattle.gb_defs.specs.Column.{find_column}
use Rattle.gb_defs.specs.Groups.{lists_in}
use Rattle.gb_series.specs.Series.{value_of}
use Rattle.gb_agg.specs.Method.{method_of}
use Rattle.gb_agg.proofs.ListedLemmas.{rows_numbered}
use Rattle.gb_agg.specs.Over.{Takes, grouping_over}
use Rattle.gb_frame.proofs.AggLemmas.{rows_aggregated}
use Rattle.gb_frame.proofs.OverLemmas.{groups_alone}
use Rattle.gb_frame.specs.Grouping.{height_in}
use Rattle.gb_frame.proofs.columns.agg_column.Goals as goal

not_false : (b : Bool) → not b ≡ false → b ≡ true
not_false true e = refl
not_false false e = cc

pub row_lists-requires-clause-takes : goal.row_lists-requires-clause-takes
row_lists-requires-clause-takes g c =
    let asked = not_false _ (sym c.needs_column.ensures ∙ c.if-needs_column.false) in
    subst (Takes c.args.over.now) (groups_alone c.args.agg.now.method asked) c.requires.takes

pub row_lists-requires-clause-numbers : goal.row_lists-requires-clause-numbers
row_lists-requires-clause-numbers g c =
    let in' = c.requires.groups in
    rows_numbered (height_in c.args.frame.now) (lists_in (grouping_over c.args.over.now)) in'.short in'.rows

pub returns-clause-ok : goal.returns-clause-ok
returns-clause-ok g c =
    let agg = c.args.agg.now in
    let name = name_of c.in_ok-name.name in
    let named = c.in_ok-name.ensures.ok ∙ ap (λ (n : List ℕ). answer_name n (method_of agg.method)) c.as_str.ensures in
    let asked = not_false _ (sym c.needs_column.ensures ∙ c.if-needs_column.false) in
    IfOk-weaker c.row_lists.result _ _
    (λ s e. rows_aggregated agg (find_column c.args.frame.now (name_of agg.column)) (lists_in (grouping_over c.args.over.now)) (value_of s) name asked named e)
    c.row_lists.ensures.ok
