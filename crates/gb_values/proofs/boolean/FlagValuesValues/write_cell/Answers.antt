use Rattle.std.proofs.Common.{◌<◌, ◌∙◌, ◌++◌, ap, [], arith, false, length}
use Rattle.std.proofs.lemmas.List.{length-map}
use Rattle.gb_defs.specs.CellText.{boolean_text, cell_text}
use Rattle.gb_defs.specs.ColumnType.{Boolean, Flat}
use Rattle.gb_base.specs.AnyValue.{flag_number}
use Rattle.gb_values.specs.Array.{flag_slot}
use Rattle.gb_values.proofs.ValueLemmas.{value_at}
use Rattle.gb_values.proofs.boolean.FlagValuesValues.write_cell.Goals as goal

pub returns : goal.returns
returns c =
    let flags = c.args.self.now in
    let lt : c.args.i < length flags = omega (arith, c.requires, length-map flags flag_slot) in
    let word = c.word_for.ensures ∙ ap (λ flag. boolean_text (flag_number flag)) c.get.ensures in
    let cell = ap (cell_text [] (Flat Boolean)) (value_at flag_slot flags false c.args.i lt) in
    c.in_ok-extend_from_slice.ensures.items ∙ ap (λ text. c.args.to.now.items ++ text) (word ∙ cell)
