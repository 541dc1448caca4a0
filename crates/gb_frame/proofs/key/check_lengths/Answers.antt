use Rattle.std.proofs.Common.{◌∙◌, ap, arith, length, subst}
use Rattle.std.proofs.lemmas.List.{take_all}
use Rattle.gb_frame.specs.Key.{AreOrOne, columns_of}
use Rattle.gb_frame.proofs.KeyLemmas.{other_length}
use Rattle.gb_frame.proofs.key.check_lengths.Goals as goal

pub returns-then-long-ne1-clause-err : goal.returns-then-long-ne1-clause-err
returns-then-long-ne1-clause-err c =
    let long = c.len-long.ensures.value ∙ ap (λ v. length v.slots) c.column.ensures in
    other_length c.args.height c.args.keys.now c.loop-key.key-index c.key-item.result c.loop-key-test.true c.key-item.is c.len-long.result long c.if-long-height.true c.if-long-ne1.true

pub returns-clause-ok : goal.returns-clause-ok
returns-clause-ok c =
    subst (λ ks. AreOrOne c.args.height (columns_of ks)) (take_all c.loop-key.key-index c.args.keys.now (omega (arith, c.loop-key-test.false))) c.loop-key.invariant
