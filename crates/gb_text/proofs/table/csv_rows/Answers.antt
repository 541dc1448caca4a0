use Rattle.std.proofs.Common.{◌≡◌, ◌∙◌, length, drop, Ok, sym, ap, arith}
use Rattle.std.proofs.lemmas.List.{take_at}
use Rattle.std.proofs.lemmas.Result.{err_from_is_err_and}
use Rattle.csv.specs.Records.{fields_of}
use Rattle.gb_text.specs.Table.{columns_with}
use Rattle.gb_defs.specs.Table.{table}
use Rattle.gb_text.proofs.ReadingLemmas.{refused_too}
use Rattle.gb_text.proofs.TakingLemmas.{taking_all, taking_bad, taking_frame, taking_more, taking_roomy, taking_whole}
use Rattle.gb_text.proofs.table.csv_rows.Goals as goal

pub loop-row-init : goal.loop-row-init
loop-row-init c = λ names bytes t. t

pub read_record-requires : goal.read_record-requires
read_record-requires c = (c.loop-row.invariant c.requires.names c.requires.bytes c.requires.taking).gives

pub frame_of-requires-clause-whole : goal.frame_of-requires-clause-whole
frame_of-requires-clause-whole c =
    taking_whole c.requires.names c.args.null_word.now c.requires.bytes c.loop-row.row c.loop-row.columns.items c.loop-row.reader (c.loop-row.invariant c.requires.names c.requires.bytes c.requires.taking) c.requires.few

pub frame_of-requires-clause-frame : goal.frame_of-requires-clause-frame
frame_of-requires-clause-frame c =
    taking_frame c.requires.names c.args.null_word.now c.requires.bytes c.loop-row.row c.loop-row.columns.items c.loop-row.reader (c.loop-row.invariant c.requires.names c.requires.bytes c.requires.taking)

pub returns-then-not-found-clause-ok : goal.returns-then-not-found-clause-ok
returns-then-not-found-clause-ok c = λ names bytes t.
    let new = c.read_record.new in
    let read = rw c.if-not-found.true at c.in_ok-found.ensures.read in
    let all = taking_all names c.args.null_word.now bytes c.loop-row.row c.loop-row.columns.items c.loop-row.reader (c.loop-row.invariant names bytes t) new.reader (fields_of new.fields) read in
    all ∙ ap (λ f. Ok f) (sym c.in_ok-frame_of.ensures)

pub push_record-requires : goal.push_record-requires
push_record-requires c = record {
  room = rw c.deref_mut.ensures.value (taking_roomy c.requires.names c.args.null_word.now c.requires.bytes c.loop-row.row c.loop-row.columns.items c.loop-row.reader
      (c.loop-row.invariant c.requires.names c.requires.bytes c.requires.taking) c.requires.few);
}

pub returns-in_err-push_record-clause-err : goal.returns-in_err-push_record-clause-err
returns-in_err-push_record-clause-err c =
    let before = c.read_record.new in
    let read = rw c.if-not-found.false at c.in_ok-found.ensures.read in
    let why = rw c.deref_mut.ensures.value at c.in_err-push_record.ensures.err in
    let p = err_from_is_err_and c.from_residual-in_err-push_record.result c.from_residual-in_err-push_record.ensures.1 in
    rw (p.1, p.2) (λ names bytes t.
    let bad = taking_bad names c.args.null_word.now bytes c.loop-row.row c.loop-row.columns.items c.loop-row.reader (c.loop-row.invariant names bytes t) before.reader (fields_of before.fields) read in
    refused_too c.in_err-push_record.field-0.0 (columns_with c.args.null_word.now c.loop-row.row c.loop-row.columns.items (fields_of before.fields)) (table bytes c.args.null_word.now) bad why)

pub loop-row-preserved : goal.loop-row-preserved
loop-row-preserved c = λ names bytes t.
    let before = c.read_record.new in
    let read = rw c.if-not-found.false at c.in_ok-found.ensures.read in
    let good = rw c.deref_mut.ensures.value at c.in_ok-push_record.ensures.ok in
    let new = c.push_record.new.columns in
    let long : length new ≡ c.loop-row.columns.len = omega arith in
    rw (take_at new (drop (length new) c.loop-row.columns.items) c.loop-row.columns.len long) (taking_more names c.args.null_word.now bytes c.loop-row.row c.loop-row.columns.items c.loop-row.reader
    (c.loop-row.invariant names bytes t) before.reader (fields_of before.fields) read c.in_ok-found.ensures.gives new good)
