use Rattle.std.proofs.lemmas.Result.{err_from_is_err_and}
use Rattle.csv.specs.Records.{fields_of}
use Rattle.gb_text.specs.Asked.{is_asked, names_in}
use Rattle.gb_text.specs.Table.{columns_of_header}
use Rattle.gb_defs.specs.Table.{table}
use Rattle.gb_text.proofs.ReadingLemmas.{header_whole, refused_too}
use Rattle.gb_text.proofs.TakingLemmas.{taking_as, taking_none, taking_no_columns, taking_header}
use Rattle.gb_text.proofs.table.csv_table.Goals as goal

pub read_record-requires : goal.read_record-requires
read_record-requires c = c.reader_of-reader.ensures.gives

pub returns-then-not-found-clause-err : goal.returns-then-not-found-clause-err
returns-then-not-found-clause-err c =
    let a = c.reader_of-reader in
    let read = rw c.if-not-found.true at c.in_ok-found.ensures.read in
    taking_none (names_in c.args.reading.now.names.now) c.args.reading.now.null_word.now c.args.bytes.now a.result c.read_record.new.reader a.ensures (fields_of c.read_record.new.fields) read

pub returns-in_err-columns-clause-err : goal.returns-in_err-columns-clause-err
returns-in_err-columns-clause-err c =
    let a = c.reader_of-reader in
    let read = rw c.if-not-found.false at c.in_ok-found.ensures.read in
    let bad = taking_no_columns (names_in c.args.reading.now.names.now) c.args.reading.now.null_word.now c.args.bytes.now a.result c.read_record.new.reader a.ensures (fields_of c.read_record.new.fields) read in
    let p = err_from_is_err_and c.from_residual-in_err-columns.result c.from_residual-in_err-columns.ensures.1 in
    rw (p.1, p.2) (refused_too c.in_err-columns.field-0.0 (columns_of_header (is_asked (names_in c.args.reading.now.names.now)) (fields_of c.read_record.new.fields)) (table c.args.bytes.now c.args.reading.now.null_word.now) bad c.in_err-columns.ensures.err)

pub grown_columns-requires : goal.grown_columns-requires
grown_columns-requires c =
    header_whole (names_in c.args.reading.now.names.now) c.args.reading.now.null_word.now c.args.bytes.now (fields_of c.read_record.new.fields) c.in_ok-columns.columns.items c.in_ok-columns.ensures.ok

pub csv_rows-requires : goal.csv_rows-requires
csv_rows-requires c =
    let a = c.reader_of-reader in
    let read = rw c.if-not-found.false at c.in_ok-found.ensures.read in
    record {
      names = names_in c.args.reading.now.names.now;
      bytes = c.args.bytes.now;
      few = c.requires;
      taking = taking_as (names_in c.args.reading.now.names.now) c.args.reading.now.null_word.now c.args.bytes.now 1 c.in_ok-columns.columns.items c.in_ok-grown.grown.items c.read_record.new.reader c.in_ok-grown.ensures
          (taking_header (names_in c.args.reading.now.names.now) c.args.reading.now.null_word.now c.args.bytes.now a.result c.read_record.new.reader a.ensures (fields_of c.read_record.new.fields) read c.in_ok-found.ensures.gives
          c.in_ok-columns.columns.items c.in_ok-columns.ensures.ok);
    }

pub returns-in_err-frame-clause-err : goal.returns-in_err-frame-clause-err
returns-in_err-frame-clause-err c =
    let a = c.reader_of-reader in
    let read = rw c.if-not-found.false at c.in_ok-found.ensures.read in
    let taking = taking_as (names_in c.args.reading.now.names.now) c.args.reading.now.null_word.now c.args.bytes.now 1 c.in_ok-columns.columns.items c.in_ok-grown.grown.items c.read_record.new.reader c.in_ok-grown.ensures
    (taking_header (names_in c.args.reading.now.names.now) c.args.reading.now.null_word.now c.args.bytes.now a.result c.read_record.new.reader a.ensures (fields_of c.read_record.new.fields) read c.in_ok-found.ensures.gives
    c.in_ok-columns.columns.items c.in_ok-columns.ensures.ok) in
    let p = err_from_is_err_and c.from_residual-in_err-frame.result c.from_residual-in_err-frame.ensures.1 in
    rw (p.1, p.2) (c.in_err-frame.ensures.err (names_in c.args.reading.now.names.now) c.args.bytes.now taking)

pub returns-clause-ok : goal.returns-clause-ok
returns-clause-ok c =
    let a = c.reader_of-reader in
    let read = rw c.if-not-found.false at c.in_ok-found.ensures.read in
    let taking = taking_as (names_in c.args.reading.now.names.now) c.args.reading.now.null_word.now c.args.bytes.now 1 c.in_ok-columns.columns.items c.in_ok-grown.grown.items c.read_record.new.reader c.in_ok-grown.ensures
    (taking_header (names_in c.args.reading.now.names.now) c.args.reading.now.null_word.now c.args.bytes.now a.result c.read_record.new.reader a.ensures (fields_of c.read_record.new.fields) read c.in_ok-found.ensures.gives
    c.in_ok-columns.columns.items c.in_ok-columns.ensures.ok) in
    c.in_ok-frame.ensures.ok (names_in c.args.reading.now.names.now) c.args.bytes.now taking
