use Rattle.std.proofs.Common.{◌<◌, length, ◌∙◌, ap, arith, subst}
use Rattle.gb_defs.specs.ColumnType.{Boolean}
use Rattle.gb_defs.specs.Slot.{Slot}
use Rattle.gb_values.specs.Keys.{IsToldByWord, word_key}
use Rattle.gb_values.proofs.KeyLemmas.{key_more, told_more}
use Rattle.gb_values.proofs.boolean.NullableArray+FlagValues.push_words.Goals as goal

pub loop-i-preserved : goal.loop-i-preserved
loop-i-preserved c =
    let slots = c.args.self.now in
    let lt : c.loop-i.i < length slots = omega (arith, c.loop-i-test.true, c.len-count.ensures.value) in
    let told = IsToldByWord Boolean in
    record {
      more = key_more slots c.loop-i.i lt word_key c.args.keys.now.items _ _ _ c.loop-i.invariant.more c.push_reserved.ensures.items (c.word_of.ensures.key ∙ ap word_key c.get.ensures);
      room = omega (arith, c.push_reserved.ensures.len, c.push_reserved.ensures.capacity, c.loop-i.invariant.room, c.loop-i-test.true);
      back = told_more slots c.loop-i.i lt told c.loop-i.invariant.back (subst (λ (s : Slot). told s) c.get.ensures c.word_of.ensures.back);
    }
