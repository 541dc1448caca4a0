use Rattle.std.proofs.Common.{◌++◌, ◌∷◌, [], ◌∙◌, List, length, take, ap, sym, subst, arith}
use Rattle.std.proofs.lemmas.List.{length-take-le, take_more}
use Rattle.gb_defs.specs.Slot.{Slot, Nil, slot_at}
use Rattle.gb_defs.specs.Table.{coded_slot, with_text}
use Rattle.gb_logical.specs.CategoricalBuilder.{AreCoded}
use Rattle.gb_logical.proofs.CodingLemmas.{after_few, coded_more}
use Rattle.gb_logical.proofs.categorical.codes.code_texts.Goals as goal

pub code_text-requires : goal.code_text-requires
code_text-requires c =
    let texts = c.args.texts.now in
    let i = c.loop-i.i in
    omega (arith, c.requires, ap length c.loop-i.invariant.texts_are, after_few c.args.known.now (take i texts), length-take-le i texts (omega (arith, c.loop-i-test.true, c.len-i-end.ensures.value)), c.loop-i-test.true, c.len-i-end.ensures.value)

pub loop-i-preserved : goal.loop-i-preserved
loop-i-preserved c =
    let texts = c.args.texts.now in
    let i = c.loop-i.i in
    let known = c.code_text.new.known in
    let slot = slot_at texts i in
    let next = coded_more c.loop-i.invariant (slot ∷ []) known c.code_text.new.codes
    (c.in_ok-code_text.ensures.known ∙ ap (with_text c.loop-i.known) c.get.ensures)
    (c.in_ok-code_text.ensures.codes ∙ ap (λ s. c.loop-i.codes ++ coded_slot known s ∷ []) c.get.ensures) in
    subst (λ (ss : List Slot). AreCoded c.args.known.now c.args.codes.now ss known c.code_text.new.codes)
    (sym (take_more texts i Nil (omega (arith, c.loop-i-test.true, c.len-i-end.ensures.value)))) next
