use Rattle.std.proofs.Common.{◌≡◌, ◌∙◌, None, ap, map, subst, sym}
use Rattle.std.specs.Option.{option_or}
use Rattle.std.proofs.lemmas.Result.{IfErr-weaker, IfOk-weaker, err_from_is_err_and}
use Rattle.gb_defs.specs.Column.{IsFrame, content, frame_height}
use Rattle.gb_defs.specs.Fault.{fault, missing_fault}
use Rattle.gb_base.specs.PolarsError.{Explains, cause_of}
use Rattle.gb_defs.specs.Groups.{HasRowNumbers}
use Rattle.gb_paths.proofs.SeveralLemmas.{also_ok}
use Rattle.gb_paths.specs.Tuples.{trace_value}
use Rattle.gb_paths.specs.declared.trace.Trace.{Trace}
use Rattle.gb_rows.specs.Lent.{keys_in}
use Rattle.gb_rows.specs.Rows.{AreOfOneLength}
use Rattle.gb_series.specs.declared.frame.DataFrame.{DataFrame}
use Rattle.gb_frame.specs.Agg.{aggs_of}
use Rattle.gb_frame.specs.Answers.{IsAnswerOver, IsTracedAnswer}
use Rattle.gb_frame.specs.Grouping.{HasHeight}
use Rattle.gb_frame.specs.Key.{columns_of, stretched_keys}
use Rattle.gb_frame.specs.Refusals.{aggs_fault, keys_fault}
use Rattle.gb_frame.proofs.CauseLemmas.{cause_first}
use Rattle.gb_frame.proofs.KeyLemmas.{fitting_few, keyless_some}
use Rattle.gb_frame.proofs.StretchLemmas.{answer_sorted, answer_traced, fault_after, fault_parts, has_height, stretched_aligned, stretched_height}
use Rattle.gb_frame.proofs.group_agg.group_agg_traced.Goals as goal

pub returns-in_err-keys-clause-err : goal.returns-in_err-keys-clause-err
returns-in_err-keys-clause-err g c =
    let frame = c.args.frame.now in
    let keys = keys_in c.args.by.now in
    let aggs = aggs_of c.args.aggs.now in
    let e = c.in_err-keys.field-0.0 in
    let refused : Explains e (keys_fault frame keys) = subst (λ ks. Explains e (keys_fault frame ks)) c.in_ok-lent_keys.ensures c.in_err-keys.ensures.err in
    let p = err_from_is_err_and c.from_residual-in_err-keys.result c.from_residual-in_err-keys.ensures.1 in
    rw (p.1, p.2) (subst (Explains e) (sym (fault_parts frame keys aggs)) (cause_first (cause_of e) (keys_fault frame keys) (aggs_fault frame keys aggs) refused))

pub returns-in_err-check_columns-clause-err : goal.returns-in_err-check_columns-clause-err
returns-in_err-check_columns-clause-err g c =
    let frame = c.args.frame.now in
    let keys = keys_in c.args.by.now in
    let aggs = aggs_of c.args.aggs.now in
    let none : keys_fault frame keys ≡ None = subst (λ ks. keys_fault frame ks ≡ None) c.in_ok-lent_keys.ensures c.in_ok-keys.ensures.fits in
    let e = c.in_err-check_columns.field-0.0 in
    let all : fault frame keys aggs ≡ aggs_fault frame keys aggs = fault_parts frame keys aggs ∙ ap (λ f. option_or f (aggs_fault frame keys aggs)) none in
    let p = err_from_is_err_and c.from_residual-in_err-check_columns.result c.from_residual-in_err-check_columns.ensures.1 in
    let missing : Explains e (missing_fault frame aggs) = subst (λ f. Explains e (missing_fault f aggs)) (c.in_ok-named.ensures ∙ c.get_columns.ensures) c.in_err-check_columns.ensures.err in
    rw (p.1, p.2) (subst (Explains e) (sym all) (cause_first (cause_of e) (missing_fault frame aggs) _ missing))

pub answer_over-requires-clause-frame : goal.answer_over-requires-clause-frame
answer_over-requires-clause-frame g c κs within = subst IsFrame (sym (c.in_ok-named.ensures ∙ c.get_columns.ensures)) c.in_ok-keys.ensures.frame

pub answer_over-requires-clause-high : goal.answer_over-requires-clause-high
answer_over-requires-clause-high g c κs within =
    let frame = c.args.frame.now in
    let keys = keys_in c.args.by.now in
    let none : keys_fault frame keys ≡ None = subst (λ ks. keys_fault frame ks ≡ None) c.in_ok-lent_keys.ensures c.in_ok-keys.ensures.fits in
    let same : keys_in c.deref-2.result.now ≡ stretched_keys frame keys =
    ap keys_in c.deref-2.ensures.value ∙ c.in_ok-lent.ensures ∙ ap columns_of c.deref.ensures.value ∙ c.in_ok-keys.ensures.ok ∙ ap (stretched_keys frame) c.in_ok-lent_keys.ensures in
    let high : HasHeight frame (frame_height (keys_in c.deref-2.result.now)) =
    subst (HasHeight frame) (sym (ap frame_height same ∙ stretched_height frame keys (keyless_some frame keys none))) (has_height frame keys) in
    subst (λ f. HasHeight f (frame_height (keys_in c.deref-2.result.now))) (sym (c.in_ok-named.ensures ∙ c.get_columns.ensures)) high

pub answer_over-requires-clause-few : goal.answer_over-requires-clause-few
answer_over-requires-clause-few g c κs within =
    let frame = c.args.frame.now in
    let keys = keys_in c.args.by.now in
    let none : keys_fault frame keys ≡ None = subst (λ ks. keys_fault frame ks ≡ None) c.in_ok-lent_keys.ensures c.in_ok-keys.ensures.fits in
    let same : keys_in c.deref-2.result.now ≡ stretched_keys frame keys =
    ap keys_in c.deref-2.ensures.value ∙ c.in_ok-lent.ensures ∙ ap columns_of c.deref.ensures.value ∙ c.in_ok-keys.ensures.ok ∙ ap (stretched_keys frame) c.in_ok-lent_keys.ensures in
    subst HasRowNumbers (sym (ap frame_height same ∙ stretched_height frame keys (keyless_some frame keys none))) (fitting_few frame keys none)

pub answer_over-requires-clause-aligned : goal.answer_over-requires-clause-aligned
answer_over-requires-clause-aligned g c κs within =
    let frame = c.args.frame.now in
    let keys = keys_in c.args.by.now in
    let aggs = aggs_of c.args.aggs.now in
    let none : keys_fault frame keys ≡ None = subst (λ ks. keys_fault frame ks ≡ None) c.in_ok-lent_keys.ensures c.in_ok-keys.ensures.fits in
    let same : keys_in c.deref-2.result.now ≡ stretched_keys frame keys =
    ap keys_in c.deref-2.ensures.value ∙ c.in_ok-lent.ensures ∙ ap columns_of c.deref.ensures.value ∙ c.in_ok-keys.ensures.ok ∙ ap (stretched_keys frame) c.in_ok-lent_keys.ensures in
    subst AreOfOneLength (sym same) (stretched_aligned frame keys (keyless_some frame keys none))

pub returns-clause-ok : goal.returns-clause-ok
returns-clause-ok g c =
    let frame = c.args.frame.now in
    let keys = keys_in c.args.by.now in
    let aggs = aggs_of c.args.aggs.now in
    let none : keys_fault frame keys ≡ None = subst (λ ks. keys_fault frame ks ≡ None) c.in_ok-lent_keys.ensures c.in_ok-keys.ensures.fits in
    let same : keys_in c.deref-2.result.now ≡ stretched_keys frame keys =
    ap keys_in c.deref-2.ensures.value ∙ c.in_ok-lent.ensures ∙ ap columns_of c.deref.ensures.value ∙ c.in_ok-keys.ensures.ok ∙ ap (stretched_keys frame) c.in_ok-lent_keys.ensures in
    let over : (made : DataFrame × Trace) → IsAnswerOver c.in_ok-named.named (keys_in c.deref-2.result.now) aggs c.args.options c.args.pool.now (map content made.0) (trace_value made.1)
    → IsTracedAnswer frame keys aggs c.args.options c.args.pool.now (map content made.0) (trace_value made.1) =
    λ made is. answer_traced frame keys c.in_ok-keys.ensures.frame (keyless_some frame keys none) aggs c.args.options c.args.pool.now (map content made.0) (trace_value made.1)
    (subst (λ ks. IsAnswerOver frame ks aggs c.args.options c.args.pool.now (map content made.0) (trace_value made.1)) same
    (subst (λ f. IsAnswerOver f (keys_in c.deref-2.result.now) aggs c.args.options c.args.pool.now (map content made.0) (trace_value made.1)) (c.in_ok-named.ensures ∙ c.get_columns.ensures) is)) in
    IfOk-weaker c.answer_over.result _ _ over c.answer_over.ensures.ok

pub returns-clause-sorted : goal.returns-clause-sorted
returns-clause-sorted g c =
    let frame = c.args.frame.now in
    let keys = keys_in c.args.by.now in
    let aggs = aggs_of c.args.aggs.now in
    let none : keys_fault frame keys ≡ None = subst (λ ks. keys_fault frame ks ≡ None) c.in_ok-lent_keys.ensures c.in_ok-keys.ensures.fits in
    let same : keys_in c.deref-2.result.now ≡ stretched_keys frame keys =
    ap keys_in c.deref-2.ensures.value ∙ c.in_ok-lent.ensures ∙ ap columns_of c.deref.ensures.value ∙ c.in_ok-keys.ensures.ok ∙ ap (stretched_keys frame) c.in_ok-lent_keys.ensures in
    IfOk-weaker c.answer_over.result _ _
    (λ made both sorted.
    answer_sorted frame keys c.in_ok-keys.ensures.frame (keyless_some frame keys none) aggs c.args.options c.args.pool.now (map content made.0) (trace_value made.1)
    (subst (λ ks. IsAnswerOver frame ks aggs c.args.options c.args.pool.now (map content made.0) (trace_value made.1)) same
    (subst (λ f. IsAnswerOver f (keys_in c.deref-2.result.now) aggs c.args.options c.args.pool.now (map content made.0) (trace_value made.1)) (c.in_ok-named.ensures ∙ c.get_columns.ensures) both.0))
    (sym (fault_after frame keys aggs none) ∙ ap (λ ks. aggs_fault frame ks aggs) (sym same) ∙ ap (λ f. aggs_fault f (keys_in c.deref-2.result.now) aggs) (sym (c.in_ok-named.ensures ∙ c.get_columns.ensures)) ∙ both.1) sorted)
    (also_ok c.answer_over.result _ _ c.answer_over.ensures.ok c.answer_over.ensures.fits)

pub returns-clause-fits : goal.returns-clause-fits
returns-clause-fits g c =
    let frame = c.args.frame.now in
    let keys = keys_in c.args.by.now in
    let aggs = aggs_of c.args.aggs.now in
    let none : keys_fault frame keys ≡ None = subst (λ ks. keys_fault frame ks ≡ None) c.in_ok-lent_keys.ensures c.in_ok-keys.ensures.fits in
    let same : keys_in c.deref-2.result.now ≡ stretched_keys frame keys =
    ap keys_in c.deref-2.ensures.value ∙ c.in_ok-lent.ensures ∙ ap columns_of c.deref.ensures.value ∙ c.in_ok-keys.ensures.ok ∙ ap (stretched_keys frame) c.in_ok-lent_keys.ensures in
    IfOk-weaker c.answer_over.result _ _ (λ made fits. sym (fault_after frame keys aggs none) ∙ ap (λ ks. aggs_fault frame ks aggs) (sym same)
    ∙ ap (λ f. aggs_fault f (keys_in c.deref-2.result.now) aggs) (sym (c.in_ok-named.ensures ∙ c.get_columns.ensures)) ∙ fits) c.answer_over.ensures.fits

pub returns-clause-err : goal.returns-clause-err
returns-clause-err g c =
    let frame = c.args.frame.now in
    let keys = keys_in c.args.by.now in
    let aggs = aggs_of c.args.aggs.now in
    let none : keys_fault frame keys ≡ None = subst (λ ks. keys_fault frame ks ≡ None) c.in_ok-lent_keys.ensures c.in_ok-keys.ensures.fits in
    let same : keys_in c.deref-2.result.now ≡ stretched_keys frame keys =
    ap keys_in c.deref-2.ensures.value ∙ c.in_ok-lent.ensures ∙ ap columns_of c.deref.ensures.value ∙ c.in_ok-keys.ensures.ok ∙ ap (stretched_keys frame) c.in_ok-lent_keys.ensures in
    IfErr-weaker c.answer_over.result _ _ (λ e h. subst (Explains e) (ap (λ f. aggs_fault f (keys_in c.deref-2.result.now) aggs) (c.in_ok-named.ensures ∙ c.get_columns.ensures)
    ∙ ap (λ ks. aggs_fault frame ks aggs) same ∙ fault_after frame keys aggs none) h) c.answer_over.ensures.err
