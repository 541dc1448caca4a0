use Rattle.std.proofs.Common.{arith}
use Rattle.std.proofs.lemmas.Result.{err_from_is_err_and}
use Rattle.csv.specs.Records.{fields_of}
use Rattle.gb_text.specs.Asked.{names_in}
use Rattle.gb_text.proofs.DeviceLemmas.{other_err}
use Rattle.gb_text.proofs.QueueLemmas.{queued_more, queued_of, queued_took}
use Rattle.gb_text.proofs.StreamLemmas.{told_at_most, told_fault, told_taken}
use Rattle.gb_text.proofs.table.queue.step.Goals as goal

pub turn-requires-clause-queue : goal.turn-requires-clause-queue
turn-requires-clause-queue g c =
    let r = c.args.reading.now in
    let s = c.requires.queued in
    queued_of (names_in r.names.now) r.null_word.now (fields_of c.args.header.now) c.args.limit s.first _ c.args.now.read c.args.ahead.now.jobs.items c.args.ahead.now.held.items c.args.columns.now.items s.queued c.requires.limit

pub returns-in_err-turn-clause-taken : goal.returns-in_err-turn-clause-taken
returns-in_err-turn-clause-taken g c = λ n first q.
    let r = c.args.reading.now in
    let s = q.streamed in
    told_at_most c.args.limit first _ c.args.now.read s.bytes (record { told = s.told; counted = s.counted; within = s.within })

pub returns-then-not-branch-clause-ok : goal.returns-then-not-branch-clause-ok
returns-then-not-branch-clause-ok g c = λ first q.
    let r = c.args.reading.now in
    queued_took (names_in r.names.now) r.null_word.now (fields_of c.args.header.now) c.args.limit first _ c.args.now.read c.args.ahead.now.jobs.items c.args.ahead.now.held.items c.args.columns.now.items q _ _ _ c.in_ok-turn.ensures

pub returns-then-not-branch-clause-taken : goal.returns-then-not-branch-clause-taken
returns-then-not-branch-clause-taken g c = λ n first q.
    let s = q.streamed in
    told_at_most c.args.limit first _ c.args.now.read s.bytes (record { told = s.told; counted = s.counted; within = s.within })

pub fill-requires-clause-within : goal.fill-requires-clause-within
fill-requires-clause-within g c = c.requires.queued.queued.streamed.within

pub returns-in_err-next-clause-err : goal.returns-in_err-next-clause-err
returns-in_err-next-clause-err g c =
    let r = c.args.reading.now in
    let p = err_from_is_err_and c.from_residual-in_err-next.result c.from_residual-in_err-next.ensures.1 in
    rw (p.1, p.2) (λ first q.
    let s = q.streamed in
    told_fault c.args.limit first _ c.args.now.read s.bytes (record { told = s.told; counted = s.counted; within = s.within })
    r.null_word.now _ _ _ _ _ (omega arith) c.fill.ensures.filled.kept c.in_err-next.ensures.filled.err)

pub returns-in_err-next-clause-taken : goal.returns-in_err-next-clause-taken
returns-in_err-next-clause-taken g c =
    let p = err_from_is_err_and c.from_residual-in_err-next.result c.from_residual-in_err-next.ensures.1 in
    rw (p.1, p.2) (λ n first q.
    let s = q.streamed in
    told_taken c.args.limit first _ c.args.now.read s.bytes (record { told = s.told; counted = s.counted; within = s.within })
    _ (c.in_err-next.ensures.filled.taken (other_err _ _ n)))

pub returns-clause-ok : goal.returns-clause-ok
returns-clause-ok g c = λ first q.
    let r = c.args.reading.now in
    let took = queued_took (names_in r.names.now) r.null_word.now (fields_of c.args.header.now) c.args.limit first _ c.args.now.read c.args.ahead.now.jobs.items c.args.ahead.now.held.items c.args.columns.now.items q _ _ _ c.in_ok-turn.ensures in
    queued_more (names_in r.names.now) r.null_word.now (fields_of c.args.header.now) c.args.limit first _ c.args.now.read _ _ _ took c.in_ok-next.next.read _ _ c.in_ok-next.ensures.filled.filled c.in_ok-next.ensures.filled.within

pub returns-clause-taken : goal.returns-clause-taken
returns-clause-taken g c = λ n first q.
    let r = c.args.reading.now in
    let took = queued_took (names_in r.names.now) r.null_word.now (fields_of c.args.header.now) c.args.limit first _ c.args.now.read c.args.ahead.now.jobs.items c.args.ahead.now.held.items c.args.columns.now.items q _ _ _ c.in_ok-turn.ensures in
    let more = queued_more (names_in r.names.now) r.null_word.now (fields_of c.args.header.now) c.args.limit first _ c.args.now.read _ _ _ took c.in_ok-next.next.read _ _ c.in_ok-next.ensures.filled.filled c.in_ok-next.ensures.filled.within in
    let s = more.streamed in
    told_at_most c.args.limit first _ c.in_ok-next.next.read s.bytes (record { told = s.told; counted = s.counted; within = s.within })
