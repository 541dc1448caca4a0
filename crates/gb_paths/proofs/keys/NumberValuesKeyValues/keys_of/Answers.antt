use Rattle.std.proofs.Common.{◌∙◌, ap, sym}
use Rattle.gb_numbers.specs.Native.{is_wide}
use Rattle.gb_paths.specs.PlainWords.{ArePlain}
use Rattle.gb_paths.proofs.KeyFormLemmas.{plain_stand_for, whole_kind, whole_width, words_stand_for}
use Rattle.gb_paths.proofs.keys.NumberValuesKeyValues.keys_of.Goals as goal

pub returns-in-Some-clause-ok : goal.returns-in-Some-clause-ok
returns-in-Some-clause-ok g c =
    let t = g.T.Native.Native.flat in
    let column = c.args.column.now in
    let words = c.in-Some.words in
    let whole = g.met.T.Native.Native.whole in
    let narrow = ap is_wide (whole_width _ t whole) ∙ sym c.is_wide.ensures ∙ c.if-is_wide.false in
    let plain : ArePlain t column.slots words.items = rw c.in-Some.is at c.in_ok-words.ensures in
    plain_stand_for t column c.allocator.ensures.typed words narrow (whole_kind _ t whole) plain

pub returns-in_ok-words-in-None-clause-ok : goal.returns-in_ok-words-in-None-clause-ok
returns-in_ok-words-in-None-clause-ok g c =
    let t = g.T.Native.Native.flat in
    let whole = g.met.T.Native.Native.whole in
    let narrow = ap is_wide (whole_width _ t whole) ∙ sym c.is_wide.ensures ∙ c.if-is_wide.false in
    words_stand_for t c.args.column.now c.allocator.ensures.typed c.in_ok-words-in-None.field-0 narrow (whole_kind _ t whole) c.in_ok-words-in-None.ensures.ok
