use Rattle.std.proofs.Common.{◌≡◌, ◌∙◌, ◌++◌, List, None, ap, map, subst, sym}
use Rattle.std.proofs.lemmas.List.{length-map, map-append}
use Rattle.std.proofs.lemmas.Result.{IfErr-weaker, IfOk-weaker}
use Rattle.std.proofs.lemmas.Simd.{map-map}
use Rattle.gb_base.specs.PolarsError.{Explains}
use Rattle.gb_defs.specs.Column.{Content, Frame, content}
use Rattle.gb_defs.specs.Fault.{missing_fault, unfit_fault}
use Rattle.gb_defs.specs.Groups.{Grouping, first_of, lists_in, rows_of_pair}
use Rattle.gb_series.specs.Frame.{frame_fault}
use Rattle.gb_series.specs.Series.{value_of}
use Rattle.gb_series.specs.declared.series.Series.{Series}
use Rattle.gb_frame.specs.Agg.{aggs_of}
use Rattle.gb_frame.specs.GroupBy.{frame_of, grouping_of, keys_of}
use Rattle.gb_frame.specs.Grouping.{aggregates_over, answer_parts, contents_of, firsts_in}
use Rattle.gb_frame.specs.Refusals.{aggs_fault}
use Rattle.gb_frame.proofs.GroupByLemmas.{aggs_named}
use Rattle.gb_frame.proofs.group_by.GroupBy.agg.Goals as goal

pub returns : goal.returns
returns g c =
    let self = c.args.self.now in
    let frame = frame_of self in
    let keys = keys_of self in
    let groups = grouping_of self in
    let aggs = aggs_of c.args.aggs.now in
    let columns = c.append.new.self.items in
    let are : map content (map value_of columns) ≡ answer_parts frame keys aggs (firsts_in groups) (lists_in groups) =
    map-map content value_of columns
    ∙ ap contents_of c.in_ok-append.ensures.items
    ∙ map-append (λ (s : Series). content (value_of s)) c.in_ok-columns.columns.items c.in_ok-folded.folded.items
    ∙ ap (λ (cs : List Content). contents_of c.in_ok-columns.columns.items ++ cs) (c.in_ok-folded.ensures.ok ∙ ap (λ (f : Frame). aggregates_over f aggs (lists_in c.view.result)) (c.in_ok-named.ensures ∙ c.get_columns.ensures)
    ∙ ap (λ (g : Grouping). aggregates_over frame aggs (lists_in g)) c.view.ensures)
    ∙ ap (λ (cs : List Content). cs ++ aggregates_over frame aggs (lists_in groups)) c.in_ok-columns.ensures.ok in
    let same = length-map groups.pairs first_of ∙ sym (length-map groups.pairs rows_of_pair) in
    let fault : aggs_fault frame keys aggs ≡ frame_fault (map value_of columns) =
    aggs_named frame keys aggs (subst (λ (f : Frame). missing_fault f aggs ≡ None) (c.in_ok-named.ensures ∙ c.get_columns.ensures) c.in_ok-check_columns.ensures.ok)
    (subst (λ (f : Frame). unfit_fault f aggs ≡ None) (c.in_ok-named.ensures ∙ c.get_columns.ensures) c.in_ok-folded.ensures.fits) self.grouped.some (firsts_in groups) (lists_in groups) same (map value_of columns) are in
    record {
      ok = IfOk-weaker c.new-2.result _ _ (λ f made. ap (map content) made.0 ∙ are) c.new-2.ensures.ok;
      fits = IfOk-weaker c.new-2.result _ _ (λ f made. fault ∙ made.1) c.new-2.ensures.ok;
      err = IfErr-weaker c.new-2.result _ _ (λ e h. subst (Explains e) (sym fault) h) c.new-2.ensures.err;
    }
