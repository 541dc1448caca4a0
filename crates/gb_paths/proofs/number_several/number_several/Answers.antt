use Rattle.std.proofs.Common.{◌∙◌, subst, sym}
use Rattle.std.proofs.lemmas.List.FromFn.{length-range_with_len}
use Rattle.gb_defs.specs.Classes.{agree_by, rows_below}
use Rattle.gb_defs.specs.Column.{frame_height}
use Rattle.gb_defs.specs.Groups.{HasRowNumbers}
use Rattle.gb_rows.specs.Lent.{keys_in}
use Rattle.gb_paths.specs.Packed.{IsPacked, words_in}
use Rattle.gb_paths.specs.Tuples.{slots_of}
use Rattle.gb_paths.proofs.PackLemmas.{packed_numbered}
use Rattle.gb_paths.proofs.number_several.number_several.Goals as goal

pub number_words-requires-clause-few : goal.number_words-requires-clause-few
number_words-requires-clause-few g c κs within =
    let keys = keys_in c.args.keys.now in
    let packed : IsPacked (agree_by (slots_of keys)) (rows_below (frame_height keys)) c.in-Some.packed = rw c.in-Some.is at c.in_ok-packed.ensures.ok in
    subst HasRowNumbers (sym (packed.many ∙ length-range_with_len 0 (frame_height keys))) c.requires.few

pub number_words-requires-clause-low : goal.number_words-requires-clause-low
number_words-requires-clause-low g c κs within =
    let keys = keys_in c.args.keys.now in
    let packed : IsPacked (agree_by (slots_of keys)) (rows_below (frame_height keys)) c.in-Some.packed = rw c.in-Some.is at c.in_ok-packed.ensures.ok in
    packed.low

pub returns-clause-ok : goal.returns-clause-ok
returns-clause-ok g c =
    let keys = keys_in c.args.keys.now in
    let packed : IsPacked (agree_by (slots_of keys)) (rows_below (frame_height keys)) c.in-Some.packed = rw c.in-Some.is at c.in_ok-packed.ensures.ok in
    let numbers = c.in_ok-numbers.numbers in
    packed_numbered (agree_by (slots_of keys)) (frame_height keys) (words_in c.in-Some.packed.words) numbers.first.items numbers.of_rows.items c.in-Some.packed.below packed c.in_ok-numbers.ensures.ok
