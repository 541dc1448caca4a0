use Rattle.std.proofs.Common.{ap, arith, length, [], ◌∙◌, sym, Ok}
use Rattle.std.proofs.lemmas.List.{drop_all}
use Rattle.std.proofs.lemmas.Result.{err_from_is_err_and}
use Rattle.csv.specs.Records.{fields_of}
use Rattle.gb_text.specs.Asked.{names_in}
use Rattle.gb_text.proofs.StreamLemmas.{all_frame, all_read, all_whole, front_alike, front_has_few, front_join, held_few, others_few}
use Rattle.gb_text.proofs.table.blocks.finish.Goals as goal

pub read_to-requires-clause-few : goal.read_to-requires-clause-few
read_to-requires-clause-few g c κs within =
    let r = c.args.reading.now in
    omega (arith, ap length c.as_slice.ensures.value, held_few (names_in r.names.now) r.null_word.now (fields_of c.args.header.now) c.requires.few.bytes c.args.held.items c.args.columns.items c.requires.few.front c.requires.few.few)

pub append_block-requires-clause-alike : goal.append_block-requires-clause-alike
append_block-requires-clause-alike g c =
    let r = c.args.reading.now in
    let held = c.args.held.items in
    let gone = drop_all (length held) held (omega arith) in
    let part = rw (c.in-Some.is, c.as_slice.ensures.value, gone) at c.in-Ok.ensures.ok in
    front_alike (names_in r.names.now) r.null_word.now (fields_of c.args.header.now) c.requires.few.bytes held c.args.columns.items c.requires.few.front [] c.in-Some.more.items part

pub append_block-requires-clause-few : goal.append_block-requires-clause-few
append_block-requires-clause-few g c =
    let r = c.args.reading.now in
    front_has_few (names_in r.names.now) r.null_word.now (fields_of c.args.header.now) c.requires.few.bytes c.args.held.items c.args.columns.items c.requires.few.front c.requires.few.few

pub append_block-requires-clause-few_more : goal.append_block-requires-clause-few_more
append_block-requires-clause-few_more g c =
    let r = c.args.reading.now in
    let held = c.args.held.items in
    let gone = drop_all (length held) held (omega arith) in
    let part = rw (c.in-Some.is, c.as_slice.ensures.value, gone) at c.in-Ok.ensures.ok in
    others_few (names_in r.names.now) r.null_word.now (fields_of c.args.header.now) c.requires.few.bytes held c.args.columns.items c.requires.few.front [] c.in-Some.more.items part c.requires.few.few

pub frame_of-requires-clause-whole : goal.frame_of-requires-clause-whole
frame_of-requires-clause-whole g c =
    let r = c.args.reading.now in
    let held = c.args.held.items in
    let gone = drop_all (length held) held (omega arith) in
    let part = rw (c.in-Some.is, c.as_slice.ensures.value, gone) at c.in-Ok.ensures.ok in
    let front =
    front_join (names_in r.names.now) r.null_word.now (fields_of c.args.header.now) c.requires.few.bytes held c.args.columns.items c.requires.few.front [] c.in-Some.more.items part
    (record { count = length held; is = sym gone }) c.append_block.new.columns.items c.in_ok-append_block-in-Some.ensures in
    all_whole (names_in r.names.now) r.null_word.now (fields_of c.args.header.now) c.requires.few.bytes c.append_block.new.columns.items front c.requires.few.few

pub frame_of-requires-clause-frame : goal.frame_of-requires-clause-frame
frame_of-requires-clause-frame g c =
    let r = c.args.reading.now in
    let held = c.args.held.items in
    let gone = drop_all (length held) held (omega arith) in
    let part = rw (c.in-Some.is, c.as_slice.ensures.value, gone) at c.in-Ok.ensures.ok in
    let front =
    front_join (names_in r.names.now) r.null_word.now (fields_of c.args.header.now) c.requires.few.bytes held c.args.columns.items c.requires.few.front [] c.in-Some.more.items part
    (record { count = length held; is = sym gone }) c.append_block.new.columns.items c.in_ok-append_block-in-Some.ensures in
    all_frame (names_in r.names.now) r.null_word.now (fields_of c.args.header.now) c.requires.few.bytes c.append_block.new.columns.items front

pub returns-in_ok-frame_of-in-Some-clause-ok : goal.returns-in_ok-frame_of-in-Some-clause-ok
returns-in_ok-frame_of-in-Some-clause-ok g c = λ bytes few before.
    let r = c.args.reading.now in
    let held = c.args.held.items in
    let gone = drop_all (length held) held (omega arith) in
    let part = rw (c.in-Some.is, c.as_slice.ensures.value, gone) at c.in-Ok.ensures.ok in
    let front =
    front_join (names_in r.names.now) r.null_word.now (fields_of c.args.header.now) bytes held c.args.columns.items before [] c.in-Some.more.items part
    (record { count = length held; is = sym gone }) c.append_block.new.columns.items c.in_ok-append_block-in-Some.ensures in
    all_read (names_in r.names.now) r.null_word.now (fields_of c.args.header.now) bytes c.append_block.new.columns.items front ∙ ap (λ f. Ok f) (sym c.in_ok-frame_of-in-Some.ensures)

pub returns-in_ok-csv_behind-in-None-clause-ok : goal.returns-in_ok-csv_behind-in-None-clause-ok
returns-in_ok-csv_behind-in-None-clause-ok g c = λ bytes few front.
    c.in_ok-csv_behind-in-None.ensures.ok (names_in c.args.reading.now.names.now) (fields_of c.args.header.now) bytes few front

pub returns-in_err-csv_behind-in-None-clause-err : goal.returns-in_err-csv_behind-in-None-clause-err
returns-in_err-csv_behind-in-None-clause-err g c =
    let p = err_from_is_err_and c.from_residual-in_err-csv_behind-in-None.result c.from_residual-in_err-csv_behind-in-None.ensures.1 in
    rw (p.1, p.2) (λ bytes few front. c.in_err-csv_behind-in-None.ensures.err (names_in c.args.reading.now.names.now) (fields_of c.args.header.now) bytes few front)
