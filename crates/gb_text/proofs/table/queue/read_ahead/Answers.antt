use Rattle.std.proofs.Common.{arith, rules}
use Rattle.std.proofs.lemmas.Result.{err_from_is_err_and}
use Rattle.csv.specs.Records.{fields_of}
use Rattle.gb_text.specs.Asked.{names_in}
use Rattle.gb_text.proofs.DeviceLemmas.{other_err}
use Rattle.gb_text.proofs.QueueLemmas.{queued_some, queued_took}
use Rattle.gb_text.proofs.StreamLemmas.{refused_later, told_at_most}
use Rattle.gb_text.proofs.table.queue.read_ahead.Goals as goal

pub rounds-init : goal.rounds-init
rounds-init g c = record {
  went = λ first q. q;
  ends = c.requires.ended;
  ascii = c.requires.ascii;
  kept = omega arith;
}

pub step-requires-clause-queued : goal.step-requires-clause-queued
step-requires-clause-queued g c =
    let s = c.requires.queued in
    record { first = s.first; queued = c.rounds.invariant.went s.first s.queued }

pub returns-in_err-goes_on-clause-err : goal.returns-in_err-goes_on-clause-err
returns-in_err-goes_on-clause-err g c =
    let r = c.args.reading.now in
    let p = err_from_is_err_and c.from_residual.result c.from_residual.ensures.1 in
    rw (p.1, p.2) (λ first q. refused_later r.null_word.now _ _ _ c.args.limit _ _ _ c.rounds.invariant.kept c.step.ensures.kept
    (c.in_err-goes_on.ensures.err first (c.rounds.invariant.went first q)))

pub join_all-requires : goal.join_all-requires
join_all-requires g c =
    let r = c.args.reading.now in
    let s = c.requires.queued in
    let q = c.in_ok-goes_on.ensures.ok s.first (c.rounds.invariant.went s.first s.queued) in
    record { queue = queued_some (names_in r.names.now) r.null_word.now (fields_of c.args.header.now) c.args.limit s.first _ _ _ _ _ q c.requires.limit }

pub returns-then-not-goes_on-clause-ok : goal.returns-then-not-goes_on-clause-ok
returns-then-not-goes_on-clause-ok g c = λ first was.
    let r = c.args.reading.now in
    let q = c.in_ok-goes_on.ensures.ok first (c.rounds.invariant.went first was) in
    let all = queued_took (names_in r.names.now) r.null_word.now (fields_of c.args.header.now) c.args.limit first _ _ _ _ _ q _ _ _ (λ bytes b. c.in_ok-join_all.ensures.stays (names_in r.names.now) r.null_word.now (fields_of c.args.header.now) bytes b) in
    let streamed = rw c.in_ok-join_all.ensures.none at all.streamed in
    rw c.seen.ensures.read streamed

pub returns-in_err-goes_on-clause-taken : goal.returns-in_err-goes_on-clause-taken
returns-in_err-goes_on-clause-taken g c =
    let p = err_from_is_err_and c.from_residual.result c.from_residual.ensures.1 in
    rw (p.1, p.2) (λ n first q. c.in_err-goes_on.ensures.taken (other_err _ _ n) first (c.rounds.invariant.went first q))

pub returns-then-not-goes_on-clause-ascii : goal.returns-then-not-goes_on-clause-ascii
returns-then-not-goes_on-clause-ascii g c = rw c.deref.ensures.value at c.seen.ensures.ascii

pub rounds-preserved : goal.rounds-preserved
rounds-preserved g c = record {
  went = λ first q. c.in_ok-goes_on.ensures.ok first (c.rounds.invariant.went first q);
  ends = c.in_ok-goes_on.ensures.ended;
  ascii = search rules;
  kept = omega (arith, c.rounds.invariant.kept, c.step.ensures.kept);
}

pub returns-clause-taken : goal.returns-clause-taken
returns-clause-taken g c = λ n first was.
    let s = (c.rounds.invariant.went first was).streamed in
    told_at_most c.args.limit first _ c.rounds.now.read s.bytes (record { told = s.told; counted = s.counted; within = s.within })
