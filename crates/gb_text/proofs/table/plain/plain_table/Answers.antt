use Rattle.std.proofs.Common.{◌∙◌, ◌<◌, length, Ok, sym, ap, arith}
use Rattle.std.proofs.lemmas.Bool.Decides.{nat_tests}
use Rattle.std.proofs.lemmas.Result.{err_from_is_err_and}
use Rattle.csv.specs.Records.{fields_of}
use Rattle.gb_defs.specs.Table.{table}
use Rattle.gb_text.specs.Asked.{is_asked, names_in}
use Rattle.gb_text.specs.Table.{columns_of_header}
use Rattle.gb_text.proofs.PlainTableLemmas.{headed, plain_end, plain_frame, plain_no_columns, plain_whole, rest_short}
use Rattle.gb_text.proofs.ReadingLemmas.{refused_too}
use Rattle.gb_text.proofs.table.plain.plain_table.Goals as goal

pub read_to-requires-clause-few : goal.read_to-requires-clause-few
read_to-requires-clause-few g c κs within =
    let bytes = c.args.bytes.now in
    let begins = rw c.in-Some.is at c.in_ok-header.ensures in
    let some : 0 < length c.without_mark-text.result.now = grind (arith, nat_tests, c.if-is_empty.ensures) in
    let h = headed bytes c.without_mark-text.result.now (fields_of c.in-Some.header) c.in-Some.text.now c.without_mark-text.ensures some c.if-is_line_end.ensures.no begins in
    omega (arith, c.requires.few, rest_short (names_in c.args.reading.now.names.now) c.args.reading.now.null_word.now bytes (fields_of c.in-Some.header) c.in-Some.text.now h)

pub returns-in_err-columns-clause-err : goal.returns-in_err-columns-clause-err
returns-in_err-columns-clause-err g c =
    let bytes = c.args.bytes.now in
    let begins = rw c.in-Some.is at c.in_ok-header.ensures in
    let some : 0 < length c.without_mark-text.result.now = grind (arith, nat_tests, c.if-is_empty.ensures) in
    let h = headed bytes c.without_mark-text.result.now (fields_of c.in-Some.header) c.in-Some.text.now c.without_mark-text.ensures some c.if-is_line_end.ensures.no begins in
    let p = err_from_is_err_and c.from_residual-in_err-columns.result c.from_residual-in_err-columns.ensures.1 in
    rw (p.1, p.2) (refused_too c.in_err-columns.field-0.0 (columns_of_header (is_asked (names_in c.args.reading.now.names.now)) (fields_of c.in-Some.header)) (table bytes c.args.reading.now.null_word.now)
    (plain_no_columns (names_in c.args.reading.now.names.now) c.args.reading.now.null_word.now bytes (fields_of c.in-Some.header) c.in-Some.text.now h) c.in_err-columns.ensures.err)

pub grown_columns-requires : goal.grown_columns-requires
grown_columns-requires g c =
    let bytes = c.args.bytes.now in
    let begins = rw c.in-Some.is at c.in_ok-header.ensures in
    let some : 0 < length c.without_mark-text.result.now = grind (arith, nat_tests, c.if-is_empty.ensures) in
    let h = headed bytes c.without_mark-text.result.now (fields_of c.in-Some.header) c.in-Some.text.now c.without_mark-text.ensures some c.if-is_line_end.ensures.no begins in
    let part = rw c.in-Some-2.is at c.in_ok-columns.ensures.ok in
    plain_whole (names_in c.args.reading.now.names.now) c.args.reading.now.null_word.now bytes (fields_of c.in-Some.header) c.in-Some.text.now h c.in-Some-2.columns.items part c.requires.few

pub frame_of-requires-clause-whole : goal.frame_of-requires-clause-whole
frame_of-requires-clause-whole g c =
    let bytes = c.args.bytes.now in
    let begins = rw c.in-Some.is at c.in_ok-header.ensures in
    let some : 0 < length c.without_mark-text.result.now = grind (arith, nat_tests, c.if-is_empty.ensures) in
    let h = headed bytes c.without_mark-text.result.now (fields_of c.in-Some.header) c.in-Some.text.now c.without_mark-text.ensures some c.if-is_line_end.ensures.no begins in
    let part = rw (← c.in_ok-grown.ensures) at (rw c.in-Some-2.is at c.in_ok-columns.ensures.ok) in
    plain_whole (names_in c.args.reading.now.names.now) c.args.reading.now.null_word.now bytes (fields_of c.in-Some.header) c.in-Some.text.now h c.in_ok-grown.grown.items part c.requires.few

pub frame_of-requires-clause-frame : goal.frame_of-requires-clause-frame
frame_of-requires-clause-frame g c =
    let bytes = c.args.bytes.now in
    let begins = rw c.in-Some.is at c.in_ok-header.ensures in
    let some : 0 < length c.without_mark-text.result.now = grind (arith, nat_tests, c.if-is_empty.ensures) in
    let h = headed bytes c.without_mark-text.result.now (fields_of c.in-Some.header) c.in-Some.text.now c.without_mark-text.ensures some c.if-is_line_end.ensures.no begins in
    let part = rw (← c.in_ok-grown.ensures) at (rw c.in-Some-2.is at c.in_ok-columns.ensures.ok) in
    plain_frame (names_in c.args.reading.now.names.now) c.args.reading.now.null_word.now bytes (fields_of c.in-Some.header) c.in-Some.text.now h c.in_ok-grown.grown.items part

pub returns-clause-ok : goal.returns-clause-ok
returns-clause-ok g c =
    let bytes = c.args.bytes.now in
    let begins = rw c.in-Some.is at c.in_ok-header.ensures in
    let some : 0 < length c.without_mark-text.result.now = grind (arith, nat_tests, c.if-is_empty.ensures) in
    let h = headed bytes c.without_mark-text.result.now (fields_of c.in-Some.header) c.in-Some.text.now c.without_mark-text.ensures some c.if-is_line_end.ensures.no begins in
    let part = rw (← c.in_ok-grown.ensures) at (rw c.in-Some-2.is at c.in_ok-columns.ensures.ok) in
    plain_end (names_in c.args.reading.now.names.now) c.args.reading.now.null_word.now bytes (fields_of c.in-Some.header) c.in-Some.text.now h c.in_ok-grown.grown.items part ∙ ap (λ f. Ok f) (sym c.in_ok-frame_of.ensures)
