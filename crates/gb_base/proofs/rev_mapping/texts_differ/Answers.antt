use Rattle.std.proofs.Common.{List, length, subst}
use Rattle.std.proofs.lemmas.Iterator.{YieldsList-from_slice, items_from_drains}
use Rattle.gb_base.specs.declared.small_str.PlSmallStr.{PlSmallStr}
use Rattle.gb_base.proofs.TextLemmas.{CountTells, names_counted}
use Rattle.gb_base.proofs.rev_mapping.texts_differ.Goals as goal

pub returns-clause-ok : goal.returns-clause-ok
returns-clause-ok c =
    let ran = c.in_ok-distinct.ensures.ran in
    let all = items_from_drains ran.0 ran.1 (YieldsList-from_slice c.args.texts.now c.iter.ensures.rest) in
    rw c.len.ensures.len
    (subst (λ (names : List PlSmallStr). CountTells (length c.in_ok-distinct.distinct.keys) names) all (names_counted ran.0 c.in_ok-distinct.distinct ran.2))
