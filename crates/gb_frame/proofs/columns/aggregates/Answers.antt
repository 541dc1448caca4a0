use Rattle.std.proofs.Common.{◌∙◌, ap, arith, sym, List}
use Rattle.std.proofs.lemmas.List.{take_all}
use Rattle.gb_defs.specs.Fault.{unfit_fault}
use Rattle.gb_defs.specs.Groups.{lists_in}
use Rattle.gb_agg.specs.Over.{grouping_over}
use Rattle.gb_frame.specs.Agg.{aggs_of}
use Rattle.gb_frame.specs.Grouping.{aggregates_over}
use Rattle.gb_frame.specs.declared.agg.Agg.{Agg}
use Rattle.gb_frame.proofs.columns.aggregates.Goals as goal

pub returns-clause-ok : goal.returns-clause-ok
returns-clause-ok g c =
    let lists = lists_in (grouping_over c.args.over.now) in
    c.loop-place.invariant.so_far.parts
    ∙ ap (λ (aggs : List Agg). aggregates_over c.args.frame.now (aggs_of aggs) lists) (take_all c.loop-place.place c.args.aggs.now (omega (arith, c.loop-place-test.false)))

pub returns-clause-fits : goal.returns-clause-fits
returns-clause-fits g c =
    ap (λ (aggs : List Agg). unfit_fault c.args.frame.now (aggs_of aggs)) (sym (take_all c.loop-place.place c.args.aggs.now (omega (arith, c.loop-place-test.false))))
    ∙ c.loop-place.invariant.so_far.fit
