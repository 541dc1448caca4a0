use Rattle.std.proofs.Common.{arith, ◌∙◌, sym}
use Rattle.gb_flat.proofs.CleanLemmas.{cut_end, cut_here, cut_least, cut_on}
use Rattle.gb_flat.proofs.clean.clean_cut.Goals as goal

pub loop-cut-preserved : goal.loop-cut-preserved
loop-cut-preserved g c = record {
  up = omega arith;
  within = omega arith;
  same =
      c.loop-cut.invariant.same
      ∙ cut_on g.T.PartialEq.eq c.args.values.now c.loop-cut.cut c.index-values-cut.result c.index-values-cut-in-loop-cut.result
      c.index-values-cut.is c.index-values-cut-in-loop-cut.is (omega arith) c.loop-cut-test.true (sym c.if-eq.ensures);
}

pub returns-else-eq-clause-cut : goal.returns-else-eq-clause-cut
returns-else-eq-clause-cut g c =
    sym (c.loop-cut.invariant.same
    ∙ cut_here g.T.PartialEq.eq c.args.values.now c.loop-cut.cut c.index-values-cut.result c.index-values-cut-in-loop-cut.result
    c.index-values-cut.is c.index-values-cut-in-loop-cut.is (omega arith) c.loop-cut-test.true (sym c.if-eq.ensures))

pub returns-after-loop-cut-clause-cut : goal.returns-after-loop-cut-clause-cut
returns-after-loop-cut-clause-cut g c = sym (c.loop-cut.invariant.same ∙ cut_end g.T.PartialEq.eq c.args.values.now c.loop-cut.cut c.loop-cut-test.false)

pub returns-else-eq-clause-least : goal.returns-else-eq-clause-least
returns-else-eq-clause-least g c = λ place d low high.
    let is = returns-else-eq-clause-cut g c in
    cut_least g.T.PartialEq.eq c.args.values.now c.args.at place d c.requires.behind low (omega (arith, high, is))

pub returns-after-loop-cut-clause-least : goal.returns-after-loop-cut-clause-least
returns-after-loop-cut-clause-least g c = λ place d low high.
    let is = returns-after-loop-cut-clause-cut g c in
    cut_least g.T.PartialEq.eq c.args.values.now c.args.at place d c.requires.behind low (omega (arith, high, is))
