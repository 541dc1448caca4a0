use Rattle.std.proofs.Common.{◌≡◌, ◌∙◌, get_or, subst, sym}
use Rattle.std.proofs.lemmas.List.{get_or_default}
use Rattle.std.proofs.lemmas.List.Elements.{All-get_or}
use Rattle.gb_agg.specs.Over.{Takes}
use Rattle.gb_frame.specs.Grouping.{HasColumn}
use Rattle.gb_frame.specs.declared.agg.Agg.{Agg}
use Rattle.gb_frame.proofs.AggLemmas.{found_at}
use Rattle.gb_frame.proofs.columns.aggregate_at.Goals as goal

pub agg_column-requires-clause-takes : goal.agg_column-requires-clause-takes
agg_column-requires-clause-takes g c κs within =
    let agg = c.index-aggs-place.result in
    subst (λ (agg : Agg). Takes c.args.over.now agg.method) (sym c.index-aggs-place.is)
    (All-get_or (λ (agg : Agg). Takes c.args.over.now agg.method) c.args.aggs.now c.args.place agg c.requires.inside c.requires.takes)

pub agg_column-requires-clause-found : goal.agg_column-requires-clause-found
agg_column-requires-clause-found g c κs within =
    let frame = c.args.frame.now in
    subst (HasColumn frame) (sym c.index-aggs-place.is) (found_at frame c.args.aggs.now c.args.place c.index-aggs-place.result c.requires.inside c.requires.found)

pub returns : goal.returns
returns g c =
    let aggs = c.args.aggs.now in
    let agg = c.index-aggs-place.result in
    let read : (d : Agg) → agg ≡ get_or aggs c.args.place d = λ d. c.index-aggs-place.is ∙ get_or_default aggs c.args.place agg d c.requires.inside in
    record {
      ok = λ d. rw (← read d) c.agg_column.ensures.ok;
      fits = λ d. rw (← read d) c.agg_column.ensures.fits;
      err = λ d. rw (← read d) c.agg_column.ensures.err;
    }
