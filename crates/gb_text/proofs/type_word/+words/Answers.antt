use Rattle.std.proofs.Common.{◌≡◌, ◌++◌, ◌∷◌, ◌∙◌, [], ap, refl, subst, sym, OnOk, append_assoc, codes, map, take, take_all}
use Rattle.std.proofs.lemmas.List.{append-nil, map_more}
use Rattle.gb_base.specs.DataType.{fields_of, part_of, type_of}
use Rattle.gb_base.proofs.DataTypeLemmas.{struct_type}
use Rattle.gb_defs.specs.ColumnType.{ColumnType}
use Rattle.gb_defs.specs.TypeWord.{field_words, more_words, type_word}
use Rattle.gb_text.proofs.TypeWordLemmas.{more_push}
use Rattle.gb_text.proofs.type_word.+words.Goals as goal

pub put_parts-loop-field-init : goal.put_parts-loop-field-init
put_parts-loop-field-init t c = sym (append-nil c.put_word.new.to.items)

pub put_parts-loop-field-preserved : goal.put_parts-loop-field-preserved
put_parts-loop-field-preserved t c =
    let before = c.put_word.new.to.items in
    let rest = c.in-Some.rest.now in
    let i = c.loop-field.field-index in
    let field = c.field-item.result in
    let parts = map part_of (take i rest) in
    let more = more_words (fields_of parts) in
    let word = type_word (type_of field.dtype) in
    let wrote = c.in_ok-put_word-2.ensures ∙ ap (λ to. to ++ word) (c.in_ok-put.ensures ∙ ap (λ to. to ++ codes ",") c.loop-field.invariant) in
    let grown = map_more part_of rest i field c.loop-field-test.true ∙ ap (λ f. parts ++ part_of f ∷ []) (sym c.field-item.is) in
    wrote ∙ append_assoc (before ++ more) (codes ",") word ∙ append_assoc before more (codes "," ++ word)
    ∙ ap (λ words. before ++ words) (sym (ap (λ ps. more_words (fields_of ps)) grown ∙ more_push parts (part_of field)))

pub put_parts-returns : goal.put_parts-returns
put_parts-returns t c =
    let first = c.in-Some.first.now in
    let rest = c.in-Some.rest.now in
    let word = type_word (type_of first.dtype) in
    let more = more_words (fields_of (map part_of rest)) in
    let whole = ap (λ fields. more_words (fields_of (map part_of fields))) (take_all c.loop-field.field-index rest c.loop-field-test.false) in
    c.loop-field.invariant ∙ ap (λ words. c.put_word.new.to.items ++ words) whole ∙ ap (λ to. to ++ more) c.in_ok-put_word.ensures
    ∙ append_assoc c.args.to.now.items word more ∙ ap (λ fields. c.args.to.now.items ++ field_words (fields_of (map part_of fields))) (sym c.in-Some.ensures.cases.0)

pub put_word-returns-in_ok-put_parts-in-Struct : goal.put_word-returns-in_ok-put_parts-in-Struct
put_word-returns-in_ok-put_parts-in-Struct t c =
    let before = c.args.to.now.items in
    let words = field_words (fields_of (map part_of c.in-Struct.fields.items)) in
    let wrote : c.put_parts.new.to.items ≡ (before ++ codes "struct[") ++ words =
    c.in_ok-put_parts-in-Struct.ensures ∙ (rw (c.as_slice.ensures.value, c.in_ok-put-in-Struct.ensures) refl) in
    let ended = rw (wrote, append_assoc before (codes "struct[") words, append_assoc before (codes "struct[" ++ words) (codes "]")) at c.put-in-Struct-2.ensures in
    let typed = ap type_of c.in-Struct.is ∙ struct_type c.in-Struct.fields in
    subst (λ (t : ColumnType). OnOk c.put-in-Struct-2.result (c.put-in-Struct-2.new.to.items ≡ before ++ type_word t)) (sym typed) ended
