use Rattle.std.proofs.Common.{[], arith}
use Rattle.std.proofs.lemmas.Result.{err_from_is_err_and}
use Rattle.csv.specs.Records.{fields_of}
use Rattle.gb_text.specs.Asked.{names_in}
use Rattle.gb_text.proofs.DeviceLemmas.{other_err}
use Rattle.gb_text.proofs.ReadingLemmas.{header_whole}
use Rattle.gb_text.proofs.StreamLemmas.{refused_later, streamed_as, streamed_start}
use Rattle.gb_text.proofs.table.blocks.read_table.Goals as goal

pub grown_columns-requires : goal.grown_columns-requires
grown_columns-requires g c =
    let r = c.args.reading.now in
    let started = rw (c.in-Some.is, c.deref.ensures.value) at c.in_ok-start.ensures in
    header_whole (names_in r.names.now) r.null_word.now [] (fields_of c.in-Some.start.header) c.in-Some.start.columns.items started.columns_are

pub read_on-requires-clause-streamed : goal.read_on-requires-clause-streamed
read_on-requires-clause-streamed g c κs within =
    let r = c.args.reading.now in
    let left = g.S.Source.left c.args.source.now in
    let started = rw (c.in-Some.is, c.deref.ensures.value) at c.in_ok-start.ensures in
    let here = streamed_as (names_in r.names.now) r.null_word.now (fields_of c.in-Some.start.header) c.args.limit left _ c.in_ok-now.now.read _ c.in-Some.start.columns.items c.in_ok-grown.grown.items c.in_ok-grown.ensures
    (streamed_start (names_in r.names.now) r.null_word.now c.args.limit left _ _ c.in_ok-first.first.read c.in_ok-now.now.read c.in-Some.start _ _ _ _
    c.new-held.ensures.items c.in_ok-first.ensures.filled.filled c.in_ok-first.ensures.filled.within started c.in_ok-keep_from.ensures c.in_ok-now.ensures.filled.filled c.in_ok-now.ensures.filled.within) in
    record { first = left; streamed = here }

pub returns-in_err-frame-2-clause-err : goal.returns-in_err-frame-2-clause-err
returns-in_err-frame-2-clause-err g c =
    let r = c.args.reading.now in
    let left = g.S.Source.left c.args.source.now in
    let p = err_from_is_err_and c.from_residual-in_err-frame-2.result c.from_residual-in_err-frame-2.ensures.1 in
    let started = rw (c.in-Some.is, c.deref.ensures.value) at c.in_ok-start.ensures in
    let here = streamed_as (names_in r.names.now) r.null_word.now (fields_of c.in-Some.start.header) c.args.limit left _ c.in_ok-now.now.read _ c.in-Some.start.columns.items c.in_ok-grown.grown.items c.in_ok-grown.ensures
    (streamed_start (names_in r.names.now) r.null_word.now c.args.limit left _ _ c.in_ok-first.first.read c.in_ok-now.now.read c.in-Some.start _ _ _ _
    c.new-held.ensures.items c.in_ok-first.ensures.filled.filled c.in_ok-first.ensures.filled.within started c.in_ok-keep_from.ensures c.in_ok-now.ensures.filled.filled c.in_ok-now.ensures.filled.within) in
    rw (p.1, p.2) (refused_later r.null_word.now _ _ _ c.args.limit _ _ _ (omega (arith, c.fill.ensures.filled.kept, c.fill-2.ensures.filled.kept)) c.read_on.ensures.kept
    (c.in_err-frame-2.ensures.err left here))

pub returns-in_err-frame-2-clause-taken : goal.returns-in_err-frame-2-clause-taken
returns-in_err-frame-2-clause-taken g c =
    let r = c.args.reading.now in
    let left = g.S.Source.left c.args.source.now in
    let p = err_from_is_err_and c.from_residual-in_err-frame-2.result c.from_residual-in_err-frame-2.ensures.1 in
    let started = rw (c.in-Some.is, c.deref.ensures.value) at c.in_ok-start.ensures in
    let here = streamed_as (names_in r.names.now) r.null_word.now (fields_of c.in-Some.start.header) c.args.limit left _ c.in_ok-now.now.read _ c.in-Some.start.columns.items c.in_ok-grown.grown.items c.in_ok-grown.ensures
    (streamed_start (names_in r.names.now) r.null_word.now c.args.limit left _ _ c.in_ok-first.first.read c.in_ok-now.now.read c.in-Some.start _ _ _ _
    c.new-held.ensures.items c.in_ok-first.ensures.filled.filled c.in_ok-first.ensures.filled.within started c.in_ok-keep_from.ensures c.in_ok-now.ensures.filled.filled c.in_ok-now.ensures.filled.within) in
    rw (p.1, p.2) (λ n. c.in_err-frame-2.ensures.taken (other_err _ _ n) left here)

pub returns-clause-ok : goal.returns-clause-ok
returns-clause-ok g c =
    let r = c.args.reading.now in
    let left = g.S.Source.left c.args.source.now in
    let started = rw (c.in-Some.is, c.deref.ensures.value) at c.in_ok-start.ensures in
    let here = streamed_as (names_in r.names.now) r.null_word.now (fields_of c.in-Some.start.header) c.args.limit left _ c.in_ok-now.now.read _ c.in-Some.start.columns.items c.in_ok-grown.grown.items c.in_ok-grown.ensures
    (streamed_start (names_in r.names.now) r.null_word.now c.args.limit left _ _ c.in_ok-first.first.read c.in_ok-now.now.read c.in-Some.start _ _ _ _
    c.new-held.ensures.items c.in_ok-first.ensures.filled.filled c.in_ok-first.ensures.filled.within started c.in_ok-keep_from.ensures c.in_ok-now.ensures.filled.filled c.in_ok-now.ensures.filled.within) in
    c.in_ok-frame-2.ensures.ok left here

pub returns-clause-taken : goal.returns-clause-taken
returns-clause-taken g c = λ n.
    let r = c.args.reading.now in
    let left = g.S.Source.left c.args.source.now in
    let started = rw (c.in-Some.is, c.deref.ensures.value) at c.in_ok-start.ensures in
    let here = streamed_as (names_in r.names.now) r.null_word.now (fields_of c.in-Some.start.header) c.args.limit left _ c.in_ok-now.now.read _ c.in-Some.start.columns.items c.in_ok-grown.grown.items c.in_ok-grown.ensures
    (streamed_start (names_in r.names.now) r.null_word.now c.args.limit left _ _ c.in_ok-first.first.read c.in_ok-now.now.read c.in-Some.start _ _ _ _
    c.new-held.ensures.items c.in_ok-first.ensures.filled.filled c.in_ok-first.ensures.filled.within started c.in_ok-keep_from.ensures c.in_ok-now.ensures.filled.filled c.in_ok-now.ensures.filled.within) in
    c.in_ok-frame-2.ensures.taken n left here
