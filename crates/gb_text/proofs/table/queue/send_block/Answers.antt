use Rattle.std.proofs.Common.{◌≡◌, ◌<◌, ◌≤◌, ◌-◌, ◌∙◌, true, length, drop, ap, arith, rules}
use Rattle.std.specs.Str.{IsAscii}
use Rattle.std.proofs.lemmas.List.{length-drop, take_all}
use Rattle.csv.specs.Records.{fields_of}
use Rattle.gb_text.specs.Asked.{names_in}
use Rattle.gb_text.specs.declared.table.jobs.Block.{Block}
use Rattle.gb_text.proofs.QueueLemmas.{block_done, queue_few, queue_sent}
use Rattle.gb_text.proofs.table.queue.send_block.Goals as goal

pub start-requires : goal.start-requires
start-requires g c =
    let r = c.args.reading.now in
    let s = c.requires.queue in
    let held = c.args.ahead.now.held.items in
    let few = queue_few (names_in r.names.now) r.null_word.now (fields_of c.args.header.now) s.bytes c.args.ahead.now.jobs.items held c.args.columns.now.items s.queue s.few in
    let inside : c.in-Some.place ≤ length held = omega (arith, ap length c.deref.ensures.value, c.in-Some.ensures) in
    let ascii : c.args.ascii ≡ true → IsAscii held = search rules in
    record {
      place = rw c.replace-text.ensures.value inside;
      few = rw c.replace-text.ensures.value few;
      ascii = rw c.replace-text.ensures.value ascii;
      start = record { names = names_in r.names.now; header = fields_of c.args.header.now; start = c.in-Ok.ensures.ok };
    }

pub take_last-requires : goal.take_last-requires
take_last-requires g c =
    let r = c.args.reading.now in
    let s = c.requires.queue in
    let held = c.args.ahead.now.held.items in
    let block : Block = record { text = c.replace-text.result; place = c.in-Some.place; ascii = c.args.ascii; columns = c.in-Ok.started; null_word = c.in_ok-null_word.null_word } in
    let text : c.replace-text.result.items ≡ held = ap (λ v. v.items) c.replace-text.ensures.value in
    let some : 0 < length (drop c.in-Some.place held) = omega (arith, ap length c.deref.ensures.value, c.in-Some.ensures, length-drop c.in-Some.place held) in
    let done = block_done (names_in r.names.now) r.null_word.now (fields_of c.args.header.now) block c.in-Err.done c.in-Err.ensures.err c.in_ok-null_word.ensures.ok c.in-Ok.ensures.ok (rw text some) in
    record {
      last = record {
        names = names_in r.names.now;
        null_word = r.null_word.now;
        header = fields_of c.args.header.now;
        bytes = s.bytes;
        few = s.few;
        done = done;
        queue = rw (c.in-Err.ensures.err.text_is, text) s.queue;
      };
    }

pub returns-in_ok-push_back-in-Ok-start : goal.returns-in_ok-push_back-in-Ok-start
returns-in_ok-push_back-in-Ok-start g c = λ bytes q.
    let r = c.args.reading.now in
    let held = c.args.ahead.now.held.items in
    let place = c.in-Some.place in
    let block : Block = record { text = c.replace-text.result; place = c.in-Some.place; ascii = c.args.ascii; columns = c.in-Ok.started; null_word = c.in_ok-null_word.null_word } in
    let text : c.replace-text.result.items ≡ held = ap (λ v. v.items) c.replace-text.ensures.value in
    let some : 0 < length (drop place held) = omega (arith, ap length c.deref.ensures.value, c.in-Some.ensures, length-drop place held) in
    let tail = take_all (length held - place) (drop place held) (omega (arith, length-drop place held)) in
    let before = rw (c.in_ok-next.ensures, c.deref-2.ensures.value, tail) at c.in_ok-extend_from_slice.ensures.items in
    let next : c.replace-text.new.dest.items ≡ drop place held = ap (λ v. v.items) c.replace-text.ensures.after ∙ before in
    let sent = queue_sent (names_in r.names.now) r.null_word.now (fields_of c.args.header.now) bytes c.args.ahead.now.jobs.items held c.args.columns.now.items q c.in-Ok-start.job block c.in-Ok-start.ensures.ok text some c.in_ok-null_word.ensures.ok c.in-Ok.ensures.ok in
    rw (c.in_ok-push_back-in-Ok-start.ensures.items, next) sent

pub returns-in_ok-took-in-Err : goal.returns-in_ok-took-in-Err
returns-in_ok-took-in-Err g c = λ bytes q.
    let r = c.args.reading.now in
    let held = c.args.ahead.now.held.items in
    let block : Block = record { text = c.replace-text.result; place = c.in-Some.place; ascii = c.args.ascii; columns = c.in-Ok.started; null_word = c.in_ok-null_word.null_word } in
    let text : c.replace-text.result.items ≡ held = ap (λ v. v.items) c.replace-text.ensures.value in
    let some : 0 < length (drop c.in-Some.place held) = omega (arith, ap length c.deref.ensures.value, c.in-Some.ensures, length-drop c.in-Some.place held) in
    let done = block_done (names_in r.names.now) r.null_word.now (fields_of c.args.header.now) block c.in-Err.done c.in-Err.ensures.err c.in_ok-null_word.ensures.ok c.in-Ok.ensures.ok (rw text some) in
    c.in_ok-took-in-Err.ensures (names_in r.names.now) r.null_word.now (fields_of c.args.header.now) bytes done (rw (c.in-Err.ensures.err.text_is, text) q)
