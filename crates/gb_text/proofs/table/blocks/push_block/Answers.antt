use Rattle.std.proofs.Common.{◌<◌, ◌≤◌, ◌-◌, arith, drop, take, length, refl}
use Rattle.std.proofs.lemmas.List.{length-drop, take-append-drop, take_all}
use Rattle.csv.specs.Records.{fields_of}
use Rattle.gb_text.specs.Asked.{names_in}
use Rattle.gb_text.proofs.StreamLemmas.{filled_front, front_alike, front_has_few, front_join, others_few, streamed_block, streamed_more}
use Rattle.gb_text.proofs.table.blocks.push_block.Goals as goal

pub append_block-requires-clause-alike : goal.append_block-requires-clause-alike
append_block-requires-clause-alike g c =
    let r = c.args.reading.now in
    let s = c.requires.streamed.streamed in
    let held = c.args.window.now.held.items in
    let part = rw (c.in-Ok.is, c.in-Some-found.is, c.as_slice.ensures.value) at c.read_and_fill-found.ensures.ok in
    front_alike (names_in r.names.now) r.null_word.now (fields_of c.args.header.now) s.bytes held c.args.columns.now.items s.front (drop c.in-Some.place held) c.in-Some-found.more.items part

pub append_block-requires-clause-few : goal.append_block-requires-clause-few
append_block-requires-clause-few g c =
    let r = c.args.reading.now in
    let s = c.requires.streamed.streamed in
    let few : length s.bytes ≤ 4294967295 = omega (arith, c.requires.limit, s.counted, s.within) in
    front_has_few (names_in r.names.now) r.null_word.now (fields_of c.args.header.now) s.bytes c.args.window.now.held.items c.args.columns.now.items s.front few

pub append_block-requires-clause-few_more : goal.append_block-requires-clause-few_more
append_block-requires-clause-few_more g c =
    let r = c.args.reading.now in
    let s = c.requires.streamed.streamed in
    let held = c.args.window.now.held.items in
    let few : length s.bytes ≤ 4294967295 = omega (arith, c.requires.limit, s.counted, s.within) in
    let part = rw (c.in-Ok.is, c.in-Some-found.is, c.as_slice.ensures.value) at c.read_and_fill-found.ensures.ok in
    others_few (names_in r.names.now) r.null_word.now (fields_of c.args.header.now) s.bytes held c.args.columns.now.items s.front (drop c.in-Some.place held) c.in-Some-found.more.items part few

pub returns-in_ok-append_block-in-Some-found-clause-ok : goal.returns-in_ok-append_block-in-Some-found-clause-ok
returns-in_ok-append_block-in-Some-found-clause-ok g c = λ first s.
    let r = c.args.reading.now in
    let held = c.args.window.now.held.items in
    let left = drop c.in-Some.place held in
    let part = rw (c.in-Ok.is, c.in-Some-found.is, c.as_slice.ensures.value) at c.read_and_fill-found.ensures.ok in
    let tail = take_all (length held - c.in-Some.place) left (omega (arith, length-drop c.in-Some.place held, c.in-Some.ensures)) in
    let before = rw (c.clear.ensures.items, c.deref-2.ensures.value, tail) at c.in_ok-extend_from_slice.ensures.items in
    let filled = rw (c.in_ok-now.was, before) at c.read_and_fill-found.ensures.filled in
    let some : 0 < length left = omega (arith, length-drop c.in-Some.place held, c.in-Some.ensures) in
    let block = streamed_block (names_in r.names.now) r.null_word.now (fields_of c.args.header.now) c.args.limit first _ c.args.window.now.now.read held c.args.columns.now.items s left c.append_block.new.columns.items
    (λ bytes front. front_join (names_in r.names.now) r.null_word.now (fields_of c.args.header.now) bytes held c.args.columns.now.items front left c.in-Some-found.more.items part
    (record { count = c.in-Some.place; is = refl }) c.append_block.new.columns.items c.in_ok-append_block-in-Some-found.ensures) some in
    rw c.swap.ensures.x_after
    (streamed_more (names_in r.names.now) r.null_word.now (fields_of c.args.header.now) c.args.limit first _ c.args.window.now.now.read left c.append_block.new.columns.items block
    c.in_ok-now.field-0.read _ _ filled.filled filled.within)

pub returns-in_ok-extend_from_slice-in-None-clause-ok : goal.returns-in_ok-extend_from_slice-in-None-clause-ok
returns-in_ok-extend_from_slice-in-None-clause-ok g c = λ first s.
    let r = c.args.reading.now in
    let held = c.args.window.now.held.items in
    let place = c.in-Some.place in
    let left = drop place held in
    let tail = take_all (length held - place) left (omega (arith, length-drop place held, c.in-Some.ensures)) in
    let before = rw (c.clear.ensures.items, c.deref-2.ensures.value, tail) at c.in_ok-extend_from_slice.ensures.items in
    let filled = rw (c.in_ok-now.was, before) at c.read_and_fill-found.ensures.filled in
    let whole = rw (take-append-drop place held) at (filled_front (take place held) _ _ left _ _ _ filled.filled) in
    let after = rw (c.truncate.ensures.items, c.deref-in-None.ensures.value) at c.in_ok-extend_from_slice-in-None.ensures.items in
    rw after
    (streamed_more (names_in r.names.now) r.null_word.now (fields_of c.args.header.now) c.args.limit first _ c.args.window.now.now.read held c.args.columns.now.items s
    c.in_ok-now.field-0.read _ _ whole filled.within)
