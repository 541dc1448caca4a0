use Rattle.std.proofs.Common.{◌≡◌, ◌<◌, length, map, Ok}
use Rattle.std.specs.String.{string_bytes}
use Rattle.std.proofs.lemmas.List.{length-map}
use Rattle.std.proofs.lemmas.Result.{err_from_is_err_and}
use Rattle.gb_defs.specs.Column.{content, rechunked}
use Rattle.gb_defs.specs.Notes.{IsTracedIn}
use Rattle.gb_defs.specs.Outcome.{outcome}
use Rattle.gb_base.specs.PlSmallStr.{name_of}
use Rattle.gb_flat.specs.Buffers.{joined}
use Rattle.gb_paths.specs.Tuples.{trace_value}
use Rattle.gb_text.specs.Asked.{asked_table}
use Rattle.gb_frame.specs.Agg.{aggs_of, names_of}
use Rattle.gb_run.specs.Request.{asked_names, group_by, options_of}
use Rattle.gb_run.specs.Run.{IsAnswerTo, IsRefusedReport}
use Rattle.gb_run.proofs.ReportLemmas.{bad_group, good_report, read_map, refused_frame, refused_table}
use Rattle.gb_run.proofs.TraceLemmas.{line_is, traced_in}
use Rattle.gb_run.proofs.report.group_report.Goals as goal

pub returns-in_err-frame-clause-err : goal.returns-in_err-frame-clause-err
returns-in_err-frame-clause-err g c =
    let p = err_from_is_err_and c.from_residual-in_err-frame.result c.from_residual-in_err-frame.ensures.1 in
    let refused = rw c.as_str.ensures at c.in_err-frame.ensures.err in
    rw (p.1, p.2) (refused_table (names_of c.args.by.now) (aggs_of c.args.aggs.now) (options_of c.args.options.now) _ _ c.args.limits.input_bytes _ _ c.in_err-frame.field-0.0 refused)

pub returns-in_err-answer-clause-err : goal.returns-in_err-answer-clause-err
returns-in_err-answer-clause-err g c =
    let by = names_of c.args.by.now in
    let aggs = aggs_of c.args.aggs.now in
    let options = options_of c.args.options.now in
    let p = err_from_is_err_and c.from_residual-in_err-answer.result c.from_residual-in_err-answer.ensures.1 in
    let read = rw (c.as_str.ensures, c.deref.ensures.value, c.in_ok-names.ensures) at c.in_ok-frame.ensures.ok in
    rw p.1 (refused_frame (outcome (group_by c.args.by.now c.args.aggs.now c.args.options.now)) _ _ c.args.limits.input_bytes _ _ p.0 (read_map c.args.limits.input_bytes _ _
    (λ bytes. asked_table (asked_names by aggs) bytes options.null_word ≡ Ok (map rechunked c.in_ok-frame.frame))
    (λ bytes. IsRefusedReport p.0 (outcome (group_by c.args.by.now c.args.aggs.now c.args.options.now) bytes))
    (λ bytes r. bad_group by aggs options bytes c.in_ok-frame.frame (rw (length-map c.args.by.now name_of) c.requires.some) r c.in_err-answer.field-0.0 p.0 c.in_err-answer.ensures.err p.2) read))

pub returns-clause-ok : goal.returns-clause-ok
returns-clause-ok g c =
    let by = names_of c.args.by.now in
    let aggs = aggs_of c.args.aggs.now in
    let options = options_of c.args.options.now in
    let frame = c.in_ok-frame.frame in
    let trace = trace_value c.in_ok-answer.trace in
    let text = joined c.in_ok-text.text.items in
    let line = string_bytes c.in_ok-line.line in
    let some : 0 < length by = rw (length-map c.args.by.now name_of) c.requires.some in
    let read = rw (c.as_str.ensures, c.deref.ensures.value, c.in_ok-names.ensures) at c.in_ok-frame.ensures.ok in
    let printed = rw c.as_str-null_word.ensures at c.in_ok-text.ensures.ok in
    let traced = rw (c.pool_of-pool.ensures.workers, c.pool_of-pool.ensures.threshold) at c.in_ok-answer.ensures.traced in
    read_map c.args.limits.input_bytes _ _ (λ bytes. asked_table (asked_names by aggs) bytes options.null_word ≡ Ok (map rechunked frame))
    (λ bytes. IsAnswerTo (group_by c.args.by.now c.args.aggs.now c.args.options.now) bytes text line)
    (λ bytes r. record {
      text_is = good_report by aggs options bytes frame some r (map content c.in_ok-answer.answer) text c.in_ok-answer.ensures.ok printed;
      traced = line_is options.explain trace (IsTracedIn bytes (group_by c.args.by.now c.args.aggs.now c.args.options.now)) line
          (traced_in by aggs options bytes frame some r trace traced) c.in_ok-line.ensures;
    }) read
