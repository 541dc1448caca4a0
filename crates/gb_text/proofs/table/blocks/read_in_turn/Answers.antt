use Rattle.std.proofs.Common.{◌≤◌, arith}
use Rattle.std.proofs.lemmas.Result.{err_from_is_err_and}
use Rattle.gb_text.proofs.DeviceLemmas.{other_err}
use Rattle.gb_text.proofs.StreamLemmas.{refused_later, told_at_most}
use Rattle.gb_text.proofs.table.blocks.read_in_turn.Goals as goal

pub rounds-init : goal.rounds-init
rounds-init g c = record {
  went = λ first s. s;
  ends = c.requires.ended;
  ascii = c.requires.ascii;
  kept = omega arith;
}

pub push_block-requires-clause-streamed : goal.push_block-requires-clause-streamed
push_block-requires-clause-streamed g c κs within =
    let s = c.requires.streamed in
    record { first = s.first; streamed = c.rounds.invariant.went s.first s.streamed }

pub returns-in_err-push_block : goal.returns-in_err-push_block
returns-in_err-push_block g c =
    let r = c.args.reading.now in
    let p = err_from_is_err_and c.from_residual.result c.from_residual.ensures.1 in
    rw (p.1, p.2) (record {
      ok = tt;
      err = λ first s. refused_later r.null_word.now _ _ _ c.args.limit _ _ _ c.rounds.invariant.kept c.push_block.ensures.kept (c.in_err-push_block.ensures.err first (c.rounds.invariant.went first s));
      taken = λ n first s. c.in_err-push_block.ensures.taken (other_err _ _ n) first (c.rounds.invariant.went first s);
      kept = omega (arith, c.rounds.invariant.kept, c.push_block.ensures.kept);
    })

pub finish_all-requires-clause-streamed : goal.finish_all-requires-clause-streamed
finish_all-requires-clause-streamed g c κs within =
    let s = c.requires.streamed in
    record { first = s.first; streamed = c.in_ok-push_block.ensures.ok s.first (c.rounds.invariant.went s.first s.streamed) }

pub returns-in_err-frame : goal.returns-in_err-frame
returns-in_err-frame g c =
    let r = c.args.reading.now in
    let p = err_from_is_err_and c.from_residual-in_err-frame.result c.from_residual-in_err-frame.ensures.1 in
    let kept : g.S.Source.faults c.args.source.now ≤ g.S.Source.faults c.push_block.new.source = omega (arith, c.rounds.invariant.kept, c.push_block.ensures.kept) in
    rw (p.1, p.2) (record {
      ok = tt;
      err = λ first s. refused_later r.null_word.now _ _ _ c.args.limit _ _ _ kept c.finish_all.ensures.kept (c.in_err-frame.ensures.err first (c.in_ok-push_block.ensures.ok first (c.rounds.invariant.went first s)));
      taken = λ n first s. c.in_err-frame.ensures.taken (other_err _ _ n) first (c.in_ok-push_block.ensures.ok first (c.rounds.invariant.went first s));
      kept = omega (arith, c.rounds.invariant.kept, c.push_block.ensures.kept, c.finish_all.ensures.kept);
    })

pub returns-then-not-branch : goal.returns-then-not-branch
returns-then-not-branch g c = record {
  ok = λ first s. c.in_ok-frame.ensures.ok first (c.in_ok-push_block.ensures.ok first (c.rounds.invariant.went first s));
  err = tt;
  taken = λ n first s. c.in_ok-frame.ensures.taken n first (c.in_ok-push_block.ensures.ok first (c.rounds.invariant.went first s));
  kept = omega (arith, c.rounds.invariant.kept, c.push_block.ensures.kept, c.finish_all.ensures.kept);
}

pub rounds-preserved : goal.rounds-preserved
rounds-preserved g c = record {
  went = λ first s. c.in_ok-push_block.ensures.ok first (c.rounds.invariant.went first s);
  ends = c.in_ok-push_block.ensures.ended;
  ascii = c.in_ok-push_block.ensures.ascii;
  kept = omega (arith, c.rounds.invariant.kept, c.push_block.ensures.kept);
}

pub returns : goal.returns
returns g c = record {
  ok = tt;
  err = λ first s. tt;
  taken = λ n first was.
      let s = c.rounds.invariant.went first was in
      told_at_most c.args.limit first _ c.rounds.window.now.read s.bytes (record { told = s.told; counted = s.counted; within = s.within });
  kept = c.rounds.invariant.kept;
}
