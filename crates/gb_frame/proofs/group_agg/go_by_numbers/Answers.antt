use Rattle.std.proofs.Common.{◌≡◌, ◌∙◌, List, All, arith, subst, sym, true}
use Rattle.std.proofs.lemmas.List.{take_all}
use Rattle.std.proofs.lemmas.List.Elements.{All-more}
use Rattle.gb_agg.specs.Method.{goes_by_numbers}
use Rattle.gb_frame.specs.declared.agg.Agg.{Agg}
use Rattle.gb_frame.proofs.group_agg.go_by_numbers.Goals as goal

pub loop-agg-preserved : goal.loop-agg-preserved
loop-agg-preserved c =
    let agg = c.agg-item.result in
    let here : goes_by_numbers agg.method ≡ true = sym c.goes_by_numbers.ensures ∙ c.if-not-goes_by_numbers.false in
    All-more (λ (a : Agg). goes_by_numbers a.method ≡ true) c.args.aggs.now c.loop-agg.agg-index agg c.loop-agg-test.true c.loop-agg.invariant
    (subst (λ (a : Agg). goes_by_numbers a.method ≡ true) c.agg-item.is here)

pub returns : goal.returns
returns c = λ e. subst (λ (some : List Agg). All (λ (a : Agg). goes_by_numbers a.method ≡ true) some)
    (take_all c.loop-agg.agg-index c.args.aggs.now (omega (arith, c.loop-agg-test.false))) c.loop-agg.invariant
