use Rattle.std.proofs.Common.{◌∙◌, ap, sym, arith}
use Rattle.std.proofs.lemmas.List.{take_all}
use Rattle.std.proofs.lemmas.Result.{err_from_is_err_and}
use Rattle.gb_base.specs.PolarsError.{Explains, cause_of}
use Rattle.gb_defs.specs.Fault.{missing_fault}
use Rattle.gb_frame.specs.Grouping.{missing_cause}
use Rattle.gb_frame.specs.Agg.{aggs_of}
use Rattle.gb_frame.proofs.CauseLemmas.{causes_at, causes_more, first_cause}
use Rattle.gb_frame.proofs.AggLemmas.{missing_is}
use Rattle.gb_frame.proofs.checks.check_columns.Goals as goal

pub returns-in_err-check_column-clause-err : goal.returns-in_err-check_column-clause-err
returns-in_err-check_column-clause-err c =
    let frame = c.args.frame.now in
    let aggs = c.args.aggs.now in
    let i = c.loop-agg.agg-index in
    let explained : (e : _) → Explains e (missing_cause frame c.agg-item.result) → Explains e (missing_fault frame (aggs_of aggs)) =
    λ e h. rw (missing_is frame aggs) (causes_at (missing_cause frame) aggs i c.agg-item.result c.loop-agg-test.true c.loop-agg.invariant (cause_of e) (rw (← c.agg-item.is) h)) in
    let p = err_from_is_err_and c.from_residual.result c.from_residual.ensures.1 in
    rw (p.1, p.2) (explained c.in_err-check_column.field-0.0 c.in_err-check_column.ensures.err)

pub loop-agg-preserved : goal.loop-agg-preserved
loop-agg-preserved c =
    causes_more (missing_cause c.args.frame.now) c.args.aggs.now c.loop-agg.agg-index c.agg-item.result c.loop-agg-test.true c.loop-agg.invariant
    (rw (← c.agg-item.is) c.in_ok-check_column.ensures.ok)

pub returns-clause-ok : goal.returns-clause-ok
returns-clause-ok c =
    let aggs = c.args.aggs.now in
    missing_is c.args.frame.now aggs ∙ ap (first_cause (missing_cause c.args.frame.now)) (sym (take_all c.loop-agg.agg-index aggs (omega (arith, c.loop-agg-test.false)))) ∙ c.loop-agg.invariant
