use Rattle.csv.specs.Records.{fields_of}
use Rattle.gb_text.specs.Asked.{names_in}
use Rattle.gb_text.proofs.table.queue.turn.Goals as goal

pub make_room-requires : goal.make_room-requires
make_room-requires g c =
    let r = c.args.reading.now in
    let s = c.requires.queue in
    record { queue = record { names = names_in r.names.now; null_word = r.null_word.now; header = fields_of c.args.header.now; bytes = s.bytes; few = s.few; queue = s.queue } }

pub send_block-requires-clause-queue : goal.send_block-requires-clause-queue
send_block-requires-clause-queue g c =
    let r = c.args.reading.now in
    let s = c.requires.queue in
    record { bytes = s.bytes; few = s.few; queue = c.in_ok-make_room.ensures.stays (names_in r.names.now) r.null_word.now (fields_of c.args.header.now) s.bytes s.queue }

pub returns-then-not-branch : goal.returns-then-not-branch
returns-then-not-branch g c = λ bytes q.
    let r = c.args.reading.now in
    c.in_ok-make_room.ensures.stays (names_in r.names.now) r.null_word.now (fields_of c.args.header.now) bytes q

pub returns : goal.returns
returns g c = λ bytes q.
    let r = c.args.reading.now in
    c.in_ok-sent.ensures bytes (c.in_ok-make_room.ensures.stays (names_in r.names.now) r.null_word.now (fields_of c.args.header.now) bytes q)
