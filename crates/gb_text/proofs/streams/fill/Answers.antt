use Rattle.std.proofs.Common.{arith, rules}
use Rattle.std.proofs.lemmas.Result.{err_from_is_err_and}
use Rattle.gb_text.proofs.DeviceLemmas.{input_fault, other_err}
use Rattle.gb_text.proofs.StreamLemmas.{filled_behind, filled_more, filled_none, filled_taken}
use Rattle.gb_text.proofs.streams.fill.Goals as goal

pub pieces-init : goal.pieces-init
pieces-init g c = record {
  within = omega (arith, c.requires.within);
  filled = filled_none c.args.read c.args.held.now.items (g.S.Source.left c.args.source.now);
  ascii = search rules;
  kept = omega arith;
}

pub returns-then-place-enough-clause-filled : goal.returns-then-place-enough-clause-filled
returns-then-place-enough-clause-filled g c =
    let s = c.pieces.invariant in
    record {
      filled = s.filled;
      within = s.within;
      ended = search rules;
      ascii = s.ascii;
      err = search rules;
      taken = λ n. filled_taken _ _ _ _ _ _ s.filled c.args.limit c.requires.within (omega (arith, s.within));
      kept = s.kept;
    }

pub returns-in_err-count-clause-filled : goal.returns-in_err-count-clause-filled
returns-in_err-count-clause-filled g c =
    let s = c.pieces.invariant in
    let p = err_from_is_err_and c.from_residual.result c.from_residual.ensures.1 in
    rw (p.1, p.2) (record {
      filled = search rules;
      within = search rules;
      ended = search rules;
      ascii = search rules;
      err = input_fault _ _ _ _ _ _ s.kept c.read_piece.ensures.kept c.in_err-count.ensures.err;
      taken = λ n. filled_behind _ _ _ _ _ _ s.filled c.args.limit c.requires.within _ s.within (c.in_err-count.ensures.taken (other_err _ _ n));
      kept = omega (arith, s.kept, c.read_piece.ensures.kept);
    })

pub returns-then-count-eq0-clause-filled : goal.returns-then-count-eq0-clause-filled
returns-then-count-eq0-clause-filled g c =
    let s = c.pieces.invariant in
    let f = filled_more _ _ _ _ _ _ s.filled c.in_ok-count.count _ _ c.in_ok-count.ensures.moved in
    record {
      filled = search rules;
      within = s.within;
      ended = search rules;
      ascii = rw c.deref-in-pieces.ensures.value at c.are_ascii-ascii.ensures;
      err = search rules;
      taken = λ n. filled_taken _ _ _ _ _ _ f c.args.limit c.requires.within (omega (arith, s.within, c.in_ok-count.ensures.fits));
      kept = omega (arith, s.kept, c.read_piece.ensures.kept);
    }

pub pieces-preserved : goal.pieces-preserved
pieces-preserved g c =
    let s = c.pieces.invariant in
    record {
      within = omega (arith, c.if-now-limit.false);
      filled = filled_more _ _ _ _ _ _ s.filled c.in_ok-count.count _ _ c.in_ok-count.ensures.moved;
      ascii = rw c.deref-in-pieces.ensures.value at c.are_ascii-ascii.ensures;
      kept = omega (arith, s.kept, c.read_piece.ensures.kept);
    }
