use Rattle.std.proofs.Common.{ap, arith}
use Rattle.std.proofs.lemmas.Result.{err_from_is_err_and}
use Rattle.gb_text.specs.Stream.{rows_read}
use Rattle.gb_text.proofs.StreamLemmas.{behind_taking, front_few}
use Rattle.gb_text.proofs.table.csv_behind.Goals as goal

pub overflow_add-rows : goal.overflow_add-rows
overflow_add-rows c =
    let f = c.requires in
    omega (arith, front_few f.names c.args.null_word.now f.header f.bytes c.args.held.items c.args.columns.items f.front f.few, c.count_rows.ensures, ap rows_read c.deref-2.ensures.value)

pub csv_rows-requires : goal.csv_rows-requires
csv_rows-requires c =
    let f = c.requires in
    let reader = rw (c.deref.ensures.value, c.in_ok-insert.ensures.items) at c.reader_of-reader.ensures in
    record {
      names = f.names;
      bytes = f.bytes;
      few = f.few;
      taking = rw (c.count_rows.ensures, c.deref-2.ensures.value) (behind_taking f.names c.args.null_word.now f.header f.bytes c.args.held.items c.args.columns.items f.front c.reader_of-reader.result reader);
    }

pub returns-in_err-frame-clause-err : goal.returns-in_err-frame-clause-err
returns-in_err-frame-clause-err c =
    let reader = rw (c.deref.ensures.value, c.in_ok-insert.ensures.items) at c.reader_of-reader.ensures in
    let p = err_from_is_err_and c.from_residual-in_err-frame.result c.from_residual-in_err-frame.ensures.1 in
    rw (p.1, p.2) (λ names header bytes few front.
    c.in_err-frame.ensures.err names bytes (rw (c.count_rows.ensures, c.deref-2.ensures.value) (behind_taking names c.args.null_word.now header bytes c.args.held.items c.args.columns.items front c.reader_of-reader.result reader)))

pub returns-clause-ok : goal.returns-clause-ok
returns-clause-ok c = λ names header bytes few front.
    let reader = rw (c.deref.ensures.value, c.in_ok-insert.ensures.items) at c.reader_of-reader.ensures in
    c.in_ok-frame.ensures.ok names bytes (rw (c.count_rows.ensures, c.deref-2.ensures.value) (behind_taking names c.args.null_word.now header bytes c.args.held.items c.args.columns.items front c.reader_of-reader.result reader))
