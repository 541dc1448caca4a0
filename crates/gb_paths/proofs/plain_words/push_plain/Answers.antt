use Rattle.std.proofs.Common.{◌<◌, length, arith}
use Rattle.gb_paths.proofs.PlainWordLemmas.{plain_more}
use Rattle.gb_paths.proofs.plain_words.push_plain.Goals as goal

pub loop-i-preserved : goal.loop-i-preserved
loop-i-preserved g c =
    let slots = c.args.chunk.now in
    let lt : c.loop-i.i < length slots = omega (arith, c.loop-i-test.true, c.len-count.ensures.value) in
    record {
      words = plain_more g.T.Native.Native.flat slots c.loop-i.i _ _ c.push_reserved.new.self.items _ _ lt c.loop-i.invariant.words c.push_reserved.ensures.items c.in-Some.ensures (c.to_word.ensures.word c.requires.narrow) (c.to_word.ensures.back c.requires.narrow);
      room = omega (arith, c.push_reserved.ensures.len, c.push_reserved.ensures.capacity, c.loop-i.invariant.room, c.loop-i-test.true);
    }
