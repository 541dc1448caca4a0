use Rattle.std.proofs.Common.{◌≡◌, ◌∙◌, ◌<◌, ap, arith, length, map, subst, sym}
use Rattle.std.proofs.lemmas.List.{length-map}
use Rattle.std.proofs.lemmas.Result.{err_from_is_err_and}
use Rattle.std.proofs.lemmas.Simd.{map-map}
use Rattle.gb_defs.specs.Column.{content, frame_height}
use Rattle.gb_defs.specs.Groups.{first_of, lists_in, rows_of_pair}
use Rattle.gb_defs.specs.Notes.{trace_of}
use Rattle.gb_base.specs.PolarsError.{Explains}
use Rattle.gb_paths.specs.Classes.{grouping_of}
use Rattle.gb_paths.specs.Tuples.{path_value}
use Rattle.gb_rows.specs.Lent.{keys_in}
use Rattle.gb_series.specs.Frame.{frame_fault}
use Rattle.gb_series.specs.Series.{value_of}
use Rattle.gb_frame.specs.Agg.{aggs_of}
use Rattle.gb_frame.specs.Grouping.{answer_parts, firsts_in}
use Rattle.gb_frame.specs.Refusals.{aggs_fault}
use Rattle.gb_frame.proofs.GroupByLemmas.{aggs_named}
use Rattle.gb_frame.proofs.GroupingLemmas.{first_long}
use Rattle.gb_frame.proofs.OverLemmas.{asked_over}
use Rattle.gb_frame.proofs.StretchLemmas.{keys_grouped}
use Rattle.gb_frame.proofs.group_agg.answer_over.Goals as goal

pub answer_columns-requires-clause-grouped : goal.answer_columns-requires-clause-grouped
answer_columns-requires-clause-grouped g c κs within =
    let keys = keys_in c.args.keys.now in
    let some : 0 < length keys = omega (arith, c.requires.some, length-map c.args.keys.now (λ key. value_of key.now)) in
    keys_grouped c.args.frame.now keys (grouping_of c.in_ok-classes.classes) c.requires.frame some c.requires.aligned c.requires.high c.requires.few c.in_ok-classes.ensures.whole.few c.in_ok-classes.ensures.formed

pub answer_columns-requires-clause-takes : goal.answer_columns-requires-clause-takes
answer_columns-requires-clause-takes g c κs within =
    asked_over c.args.frame.now c.args.aggs.now c.go_by_numbers-by_numbers.result _ c.in_ok-classes.classes c.in_ok-classes.ensures.all c.go_by_numbers-by_numbers.ensures c.requires.high

pub returns-in_err-answer-clause-err : goal.returns-in_err-answer-clause-err
returns-in_err-answer-clause-err g c =
    let frame = c.args.frame.now in
    let keys = keys_in c.args.keys.now in
    let groups = grouping_of c.in_ok-classes.classes in
    let aggs = aggs_of c.args.aggs.now in
    let columns = c.in_ok-columns.columns.items in
    let some : 0 < length keys = omega (arith, c.requires.some, length-map c.args.keys.now (λ key. value_of key.now)) in
    let are : map content (map value_of columns) ≡ answer_parts frame keys aggs (firsts_in groups) (lists_in groups) = map-map content value_of columns ∙ c.in_ok-columns.ensures.ok in
    let same = length-map groups.pairs first_of ∙ sym (length-map groups.pairs rows_of_pair) in
    let fault : aggs_fault frame keys aggs ≡ frame_fault (map value_of columns) =
    aggs_named frame keys aggs c.requires.found c.in_ok-columns.ensures.fits some (firsts_in groups) (lists_in groups) same (map value_of columns) are in
    let p = err_from_is_err_and c.from_residual-in_err-answer.result c.from_residual-in_err-answer.ensures.1 in
    rw (p.1, p.2) (subst (Explains c.in_err-answer.field-0.0) (sym fault) c.in_err-answer.ensures.err)

pub returns-clause-ok : goal.returns-clause-ok
returns-clause-ok g c =
    let frame = c.args.frame.now in
    let keys = keys_in c.args.keys.now in
    let groups = grouping_of c.in_ok-classes.classes in
    let aggs = aggs_of c.args.aggs.now in
    let columns = c.in_ok-columns.columns.items in
    let path = path_value c.in_ok-classes.path in
    let are : map content (map value_of columns) ≡ answer_parts frame keys aggs (firsts_in groups) (lists_in groups) = map-map content value_of columns ∙ c.in_ok-columns.ensures.ok in
    let high = c.len.ensures.value ∙ first_long c.args.keys.now c.index-keys-0.result _ c.requires.some c.index-keys-0.is in
    record {
      groups = groups;
      path = path;
      found = c.in_ok-classes.ensures.ok;
      whole = c.in_ok-classes.ensures.whole;
      by_first = c.in_ok-classes.ensures.classes;
      is = ap (map content) c.in_ok-answer.ensures.ok.0 ∙ are;
      traced = c.new-trace.ensures ∙ ap (λ n. trace_of path n c.len-2.result) high ∙ ap (trace_of path (frame_height keys)) c.len-2.ensures;
    }

pub returns-clause-fits : goal.returns-clause-fits
returns-clause-fits g c =
    let frame = c.args.frame.now in
    let keys = keys_in c.args.keys.now in
    let groups = grouping_of c.in_ok-classes.classes in
    let aggs = aggs_of c.args.aggs.now in
    let columns = c.in_ok-columns.columns.items in
    let some : 0 < length keys = omega (arith, c.requires.some, length-map c.args.keys.now (λ key. value_of key.now)) in
    let are : map content (map value_of columns) ≡ answer_parts frame keys aggs (firsts_in groups) (lists_in groups) = map-map content value_of columns ∙ c.in_ok-columns.ensures.ok in
    let same = length-map groups.pairs first_of ∙ sym (length-map groups.pairs rows_of_pair) in
    aggs_named frame keys aggs c.requires.found c.in_ok-columns.ensures.fits some (firsts_in groups) (lists_in groups) same (map value_of columns) are ∙ c.in_ok-answer.ensures.ok.1
