use Rattle.std.proofs.Common.{◌≡◌, ◌≤◌, ℕ, List, Option, arith, length, map, Ok}
use Rattle.std.proofs.lemmas.Result.{err_from_is_err_and}
use Rattle.csv.specs.Records.{fields_of}
use Rattle.gb_defs.specs.Column.{rechunked}
use Rattle.gb_text.specs.Asked.{asked_table, names_in}
use Rattle.gb_text.specs.Stream.{IsReadBy}
use Rattle.gb_text.proofs.DeviceLemmas.{other_err}
use Rattle.gb_text.proofs.StreamLemmas.{streamed_front, streamed_more, streamed_told, told_all, told_at_most, told_fault, told_refused, told_taken}
use Rattle.gb_text.proofs.table.blocks.finish_all.Goals as goal

pub fill_all-requires-clause-within : goal.fill_all-requires-clause-within
fill_all-requires-clause-within g c = c.requires.streamed.streamed.within

pub returns-in_err-all : goal.returns-in_err-all
returns-in_err-all g c =
    let r = c.args.reading.now in
    let p = err_from_is_err_and c.from_residual.result c.from_residual.ensures.1 in
    let told_of = streamed_told (names_in r.names.now) r.null_word.now (fields_of c.args.header.now) c.args.limit in
    rw (p.1, p.2) (record {
      ok = tt;
      err = λ first s. told_fault c.args.limit first _ c.args.now.read s.bytes (told_of first _ c.args.now.read c.args.held.items c.args.columns.items s)
          r.null_word.now _ _ _ _ _ (omega arith) c.fill_all.ensures.filled.kept c.in_err-all.ensures.filled.err;
      taken = λ n first s. told_taken c.args.limit first _ c.args.now.read s.bytes (told_of first _ c.args.now.read c.args.held.items c.args.columns.items s)
          _ (c.in_err-all.ensures.filled.taken (other_err _ _ n));
      kept = c.fill_all.ensures.filled.kept;
    })

pub finish-requires-clause-few : goal.finish-requires-clause-few
finish-requires-clause-few g c κs within =
    let r = c.args.reading.now in
    let s = c.requires.streamed in
    let more = streamed_more (names_in r.names.now) r.null_word.now (fields_of c.args.header.now) c.args.limit s.first _ c.args.now.read c.args.held.items c.args.columns.items s.streamed c.in_ok-all.all.read _ _
    c.in_ok-all.ensures.filled.filled c.in_ok-all.ensures.filled.within in
    streamed_front (names_in r.names.now) r.null_word.now (fields_of c.args.header.now) c.args.limit s.first _ c.in_ok-all.all.read _ c.args.columns.items more c.requires.limit

pub returns-in_err-frame : goal.returns-in_err-frame
returns-in_err-frame g c =
    let r = c.args.reading.now in
    let header = fields_of c.args.header.now in
    let p = err_from_is_err_and c.from_residual-in_err-frame.result c.from_residual-in_err-frame.ensures.1 in
    let more_of = λ (first : Option (List ℕ)) (s : IsReadBy c.args.reading.now c.args.header.now c.args.limit first (g.S.Source.left c.args.source.now) c.args.now.read c.args.held.items c.args.columns.items). streamed_more (names_in r.names.now) r.null_word.now header c.args.limit first _ c.args.now.read c.args.held.items c.args.columns.items s c.in_ok-all.all.read _ _
    c.in_ok-all.ensures.filled.filled c.in_ok-all.ensures.filled.within in
    let told_of = λ (first : Option (List ℕ)) (s : IsReadBy c.args.reading.now c.args.header.now c.args.limit first (g.S.Source.left c.args.source.now) c.args.now.read c.args.held.items c.args.columns.items). streamed_told (names_in r.names.now) r.null_word.now header c.args.limit first _ c.in_ok-all.all.read _ c.args.columns.items (more_of first s) in
    rw (p.1, p.2) (record {
      ok = tt;
      err = λ first s.
          let more = more_of first s in
          let few : length more.bytes ≤ 4294967295 = omega (arith, c.requires.limit, more.counted, more.within) in
          told_refused c.args.limit first _ c.in_ok-all.all.read more.bytes (told_of first s) c.in_ok-all.ensures.ended r.null_word.now _ _ c.in_err-frame.field-0.0 (c.in_err-frame.ensures.err more.bytes few more.front);
      taken = λ n first s. told_at_most c.args.limit first _ c.in_ok-all.all.read _ (told_of first s);
      kept = c.fill_all.ensures.filled.kept;
    })

pub returns : goal.returns
returns g c =
    let r = c.args.reading.now in
    let header = fields_of c.args.header.now in
    let more_of = λ (first : Option (List ℕ)) (s : IsReadBy c.args.reading.now c.args.header.now c.args.limit first (g.S.Source.left c.args.source.now) c.args.now.read c.args.held.items c.args.columns.items). streamed_more (names_in r.names.now) r.null_word.now header c.args.limit first _ c.args.now.read c.args.held.items c.args.columns.items s c.in_ok-all.all.read _ _
    c.in_ok-all.ensures.filled.filled c.in_ok-all.ensures.filled.within in
    let told_of = λ (first : Option (List ℕ)) (s : IsReadBy c.args.reading.now c.args.header.now c.args.limit first (g.S.Source.left c.args.source.now) c.args.now.read c.args.held.items c.args.columns.items). streamed_told (names_in r.names.now) r.null_word.now header c.args.limit first _ c.in_ok-all.all.read _ c.args.columns.items (more_of first s) in
    record {
      ok = λ first s.
          let more = more_of first s in
          let few : length more.bytes ≤ 4294967295 = omega (arith, c.requires.limit, more.counted, more.within) in
          told_all c.args.limit first _ c.in_ok-all.all.read more.bytes (told_of first s) c.in_ok-all.ensures.ended
          (λ bytes. asked_table (names_in r.names.now) bytes r.null_word.now ≡ Ok (map rechunked c.in_ok-frame.frame)) (c.in_ok-frame.ensures.ok more.bytes few more.front);
      err = tt;
      taken = λ n first s. told_at_most c.args.limit first _ c.in_ok-all.all.read _ (told_of first s);
      kept = c.fill_all.ensures.filled.kept;
    }
