use Rattle.std.proofs.Common.{arith, ltb-true, lt-ltb}
use Rattle.gb_groups.proofs.FitLemmas.{no_rise, rise_back, rise_end, rise_there}
use Rattle.gb_groups.proofs.fits.rise_from.Goals as goal

pub returns-then-next-last : goal.returns-then-next-last
returns-then-next-last c =
    let at = c.loop-next in
    (λ e. cc, λ members. absurd (no_rise c.args.n c.args.row c.args.later.now at.next-index at.last at.invariant.there at.invariant.back 0 c.loop-next-test.true (omega arith) members))

pub loop-next-preserved : goal.loop-next-preserved
loop-next-preserved c =
    let at = c.loop-next in
    record {
      there = rise_there c.args.n c.args.row c.args.later.now at.next-index at.last at.invariant.there at.invariant.back 0 c.loop-next-test.true;
      back = rise_back c.args.n c.args.row c.args.later.now at.next-index at.last at.invariant.there at.invariant.back 0 c.loop-next-test.true (omega arith);
    }

pub returns : goal.returns
returns c =
    let at = c.loop-next in
    let end = rise_end c.args.n c.args.row c.args.later.now at.next-index at.last at.invariant.there at.invariant.back (omega arith) in
    (λ low. end.1 (ltb-true at.last c.args.n low), λ members. lt-ltb at.last c.args.n (end.0 members))
