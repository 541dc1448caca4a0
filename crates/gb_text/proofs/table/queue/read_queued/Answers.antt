use Rattle.std.proofs.Common.{arith}
use Rattle.std.proofs.lemmas.Result.{err_from_is_err_and}
use Rattle.gb_text.specs.Queue.{IsQueuedBy}
use Rattle.gb_text.proofs.DeviceLemmas.{other_err}
use Rattle.gb_text.proofs.StreamLemmas.{refused_later}
use Rattle.gb_text.proofs.table.queue.read_queued.Goals as goal

pub read_ahead-requires-clause-queued : goal.read_ahead-requires-clause-queued
read_ahead-requires-clause-queued g c =
    let s = c.requires.streamed in
    record { first = s.first; queued = record { streamed = rw c.new.ensures.items s.streamed; blocks = rw c.new.ensures.items tt } }

pub returns-in_err-frame-in-Ok : goal.returns-in_err-frame-in-Ok
returns-in_err-frame-in-Ok g c =
    let r = c.args.reading.now in
    let p = err_from_is_err_and c.from_residual.result c.from_residual.ensures.1 in
    rw (p.1, p.2) (record {
      ok = tt;
      err = λ first s.
          let q : IsQueuedBy c.args.reading.now c.args.header.now c.args.limit first (g.S.Source.left c.args.source.now) c.args.now.read c.new.result.items c.args.held.items c.args.columns.items =
          record { streamed = rw c.new.ensures.items s; blocks = rw c.new.ensures.items tt } in
          refused_later r.null_word.now _ _ _ c.args.limit _ _ _ c.read_ahead.ensures.kept c.finish_all.ensures.kept (c.in_err-frame-in-Ok.ensures.err first (c.in-Ok.ensures.ok first q));
      taken = λ n first s.
          let q : IsQueuedBy c.args.reading.now c.args.header.now c.args.limit first (g.S.Source.left c.args.source.now) c.args.now.read c.new.result.items c.args.held.items c.args.columns.items =
          record { streamed = rw c.new.ensures.items s; blocks = rw c.new.ensures.items tt } in
          c.in_err-frame-in-Ok.ensures.taken (other_err _ _ n) first (c.in-Ok.ensures.ok first q);
      kept = omega (arith, c.read_ahead.ensures.kept, c.finish_all.ensures.kept);
    })

pub returns-in_ok-frame-in-Ok : goal.returns-in_ok-frame-in-Ok
returns-in_ok-frame-in-Ok g c = record {
  ok = λ first s.
      let q : IsQueuedBy c.args.reading.now c.args.header.now c.args.limit first (g.S.Source.left c.args.source.now) c.args.now.read c.new.result.items c.args.held.items c.args.columns.items =
      record { streamed = rw c.new.ensures.items s; blocks = rw c.new.ensures.items tt } in
      c.in_ok-frame-in-Ok.ensures.ok first (c.in-Ok.ensures.ok first q);
  err = tt;
  taken = λ n first s.
      let q : IsQueuedBy c.args.reading.now c.args.header.now c.args.limit first (g.S.Source.left c.args.source.now) c.args.now.read c.new.result.items c.args.held.items c.args.columns.items =
      record { streamed = rw c.new.ensures.items s; blocks = rw c.new.ensures.items tt } in
      c.in_ok-frame-in-Ok.ensures.taken n first (c.in-Ok.ensures.ok first q);
  kept = omega (arith, c.read_ahead.ensures.kept, c.finish_all.ensures.kept);
}

pub returns-in-Err : goal.returns-in-Err
returns-in-Err g c = record {
  ok = tt;
  err = λ first s.
      let q : IsQueuedBy c.args.reading.now c.args.header.now c.args.limit first (g.S.Source.left c.args.source.now) c.args.now.read c.new.result.items c.args.held.items c.args.columns.items =
      record { streamed = rw c.new.ensures.items s; blocks = rw c.new.ensures.items tt } in
      c.in-Err.ensures.err first q;
  taken = λ n first s.
      let q : IsQueuedBy c.args.reading.now c.args.header.now c.args.limit first (g.S.Source.left c.args.source.now) c.args.now.read c.new.result.items c.args.held.items c.args.columns.items =
      record { streamed = rw c.new.ensures.items s; blocks = rw c.new.ensures.items tt } in
      c.in-Err.ensures.taken (other_err _ _ n) first q;
  kept = c.read_ahead.ensures.kept;
}
