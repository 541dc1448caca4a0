use Rattle.std.proofs.Common.{◌≤◌, length, arith}
use Rattle.gb_cols.proofs.ChunkedLemmas.{before_all}
use Rattle.gb_cols.proofs.NearLemmas.{chunk_near, last_near}
use Rattle.gb_cols.proofs.near_chunk.chunk_of.Goals as goal

pub loop-place-init : goal.loop-place-init
loop-place-init g c = record { start_is = c.requires.from.is; from = c.requires.before }

pub returns : goal.returns
returns g c =
    let s = c.loop-place.invariant in
    let within : c.loop-place.place ≤ length c.args.earlier.now = c.loop-place.auto.place-end c.requires.from.inside in
    let all = before_all c.args.earlier.now c.args.last.now c.loop-place.place c.loop-place-test.false in
    record {
      near = last_near c.args.earlier.now c.args.last.now c.loop-place.place c.loop-place.start c.loop-place-test.false within s.start_is;
      from = s.from;
      inside = omega (arith, s.start_is, all, c.requires.inside);
    }

pub returns-then-row-start-clause-near : goal.returns-then-row-start-clause-near
returns-then-row-start-clause-near g c = chunk_near c.args.earlier.now c.args.last.now c.index-earlier-place.result c.loop-place.place c.loop-place.start c.loop-place-test.true c.index-earlier-place.is c.loop-place.invariant.start_is
