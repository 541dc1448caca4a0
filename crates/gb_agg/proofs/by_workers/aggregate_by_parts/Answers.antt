use Rattle.std.proofs.Common.{◌∙◌, ap}
use Rattle.std.proofs.lemmas.Result.{IfOk-weaker}
use Rattle.gb_defs.specs.Column.{ColumnValue, content}
use Rattle.gb_defs.specs.Groups.{lists_in}
use Rattle.gb_agg.specs.Folds.{folded}
use Rattle.gb_agg.specs.Method.{method_of}
use Rattle.gb_agg.proofs.by_workers.aggregate_by_parts.Goals as goal

pub aggregate_whole-requires-2-clause-groups : goal.aggregate_whole-requires-2-clause-groups
aggregate_whole-requires-2-clause-groups g c κs within = rw c.in_ok-whole.ensures.ok (record { rows = c.requires.groups.rows; few = c.requires.groups.few })

pub aggregate_whole-requires-2-clause-short : goal.aggregate_whole-requires-2-clause-short
aggregate_whole-requires-2-clause-short g c κs within = rw c.in_ok-whole.ensures.ok c.requires.short

pub returns-clause-fits : goal.returns-clause-fits
returns-clause-fits g c = rw c.in_ok-whole.ensures.ok at c.aggregate_whole-2.ensures.fits

pub returns-clause-ok : goal.returns-clause-ok
returns-clause-ok g c =
    let lists = lists_in c.args.groups.now in
    IfOk-weaker c.aggregate_whole-2.result _ _ (λ s e. e ∙ ap (λ (v : ColumnValue). content (folded (method_of c.args.method) v lists)) c.in_ok-whole.ensures.ok)
    c.aggregate_whole-2.ensures.ok

pub returns-clause-err : goal.returns-clause-err
returns-clause-err g c = rw c.in_ok-whole.ensures.ok at c.aggregate_whole-2.ensures.err
