use Rattle.std.proofs.Common.{◌≡◌, ◌++◌, map, take}
use Rattle.gb_base.specs.DataType.{fields_of, part_of}
use Rattle.gb_defs.specs.TypeWord.{more_words}
use Rattle.gb_text.proofs.type_word.+words.Given as goal

abbrev pub invariant-put_parts-loop-field : goal.invariant-put_parts-loop-field
invariant-put_parts-loop-field l = l.to.items ≡ l.initial.to.items ++ more_words (fields_of (map part_of (take l.field-index l.rest)))
