use Rattle.std.proofs.Common.{◌∙◌, ap, sym, subst}
use Rattle.std.proofs.lemmas.Result.{IfErr-weaker, IfOk-weaker}
use Rattle.gb_base.specs.PolarsError.{Explains}
use Rattle.gb_defs.specs.Column.{content}
use Rattle.gb_defs.specs.Groups.{Grouping, lists_in}
use Rattle.gb_series.specs.Series.{value_of}
use Rattle.gb_agg.specs.Folds.{AreGroupsOf, folded}
use Rattle.gb_agg.specs.Method.{method_of}
use Rattle.gb_agg.proofs.GroupPartLemmas.{no_cause, part_fits}
use Rattle.gb_agg.proofs.by_workers.aggregate_part.Goals as goal

pub aggregate-requires-clause-groups : goal.aggregate-requires-clause-groups
aggregate-requires-clause-groups c =
    let column = value_of c.args.column.now in
    subst (AreGroupsOf column) (sym c.part.ensures) (part_fits column c.args.groups.now c.args.range.0 c.args.range.1 c.requires.inside c.requires.groups)

pub returns-clause-ok : goal.returns-clause-ok
returns-clause-ok c =
    let column = value_of c.args.column.now in
    IfOk-weaker c.aggregate.result _ _ (λ s e. ap content e ∙ ap (λ (g : Grouping). content (folded (method_of c.args.method) column (lists_in g))) c.part.ensures) c.aggregate.ensures.ok

pub returns-clause-err : goal.returns-clause-err
returns-clause-err c = IfErr-weaker c.aggregate.result _ _ (λ e h. no_cause e (subst (λ cause. Explains e cause) c.requires.fits h)) c.aggregate.ensures.err
