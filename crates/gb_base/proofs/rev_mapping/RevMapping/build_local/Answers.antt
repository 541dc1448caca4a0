use Rattle.std.proofs.Common.{List, arith, ◌<◌, ◌∙◌, ap, length, map, subst, sym, take}
use Rattle.std.specs.List.{IsDistinct}
use Rattle.std.specs.Str.{bytes_eq}
use Rattle.std.proofs.lemmas.List.{length-map, length-take-le, take_all}
use Rattle.gb_base.specs.declared.small_str.PlSmallStr.{PlSmallStr}
use Rattle.gb_base.specs.PlSmallStr.{name_of}
use Rattle.gb_base.proofs.TextLemmas.{text_more}
use Rattle.gb_base.proofs.rev_mapping.RevMapping.build_local.Goals as goal

pub number_of-requires : goal.number_of-requires
number_of-requires c =
    let names = c.deref-name-items.result.now in
    let i = c.loop-name.name-index in
    let lt : i < length names = omega (arith, c.loop-name-test.true) in
    omega (arith, ap length c.loop-name.invariant, length-map (take i names) name_of, length-take-le i names (omega arith), c.requires.few, c.args.texts.ok.0, ap length c.deref-name-items.ensures.value)

pub loop-name-preserved : goal.loop-name-preserved
loop-name-preserved c =
    let differ = subst (λ (names : List PlSmallStr). IsDistinct bytes_eq (map name_of names)) (sym c.deref-name-items.ensures.value) c.requires.differ in
    text_more c.deref-name-items.result.now c.loop-name.name-index c.name-item.result c.loop-name.map c.number_of.new.self c.as_str.result.now differ c.loop-name-test.true c.name-item.is c.as_str.ensures
    c.loop-name.invariant c.in_ok-number_of.ensures.texts

pub returns-clause-ok : goal.returns-clause-ok
returns-clause-ok c =
    c.loop-name.invariant
    ∙ ap (map name_of) (take_all c.loop-name.name-index c.deref-name-items.result.now (omega (arith, c.loop-name-test.false)) ∙ c.deref-name-items.ensures.value)
