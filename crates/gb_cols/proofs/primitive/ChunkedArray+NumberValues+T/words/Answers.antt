use Rattle.std.proofs.Common.{List, map, ◌∙◌, ap, subst}
use Rattle.std.specs.List.{All}
use Rattle.gb_defs.specs.Slot.{Slot}
use Rattle.gb_values.specs.Keys.{IsToldByWord, word_key, key_slot}
use Rattle.gb_cols.proofs.ChunkedLemmas.{all_slots, each_all, each_more}
use Rattle.gb_cols.proofs.KeyLemmas.{chunk_last, chunk_more}
use Rattle.gb_values.proofs.KeyLemmas.{words_are}
use Rattle.gb_cols.proofs.primitive.ChunkedArray+NumberValues+T.words.Goals as goal

pub loop-chunk-preserved : goal.loop-chunk-preserved
loop-chunk-preserved g c =
    let chunks = c.deref-chunk-items.result.now in
    let chunk = c.chunk-item.result in
    let at = c.loop-chunk.chunk-index in
    let told = IsToldByWord g.T.Native.Native.flat in
    record {
      keys = chunk_more word_key chunks at chunk _ _ c.loop-chunk-test.true c.chunk-item.is c.loop-chunk.invariant.keys c.in_ok-push_words.ensures.more;
      back = each_more told chunks chunk at c.loop-chunk-test.true c.chunk-item.is c.loop-chunk.invariant.back c.in_ok-push_words.ensures.back;
    }

pub returns-clause-ok : goal.returns-clause-ok
returns-clause-ok g c =
    let chunks = c.deref-chunk-items.result.now in
    let last = c.self.inside.last in
    let at = c.loop-chunk.chunk-index in
    let told = IsToldByWord g.T.Native.Native.flat in
    let keys = chunk_last word_key chunks at last _ _ c.loop-chunk-test.false c.loop-chunk.invariant.keys c.in_ok-push_words-2.ensures.more in
    let back = each_all told chunks last at c.loop-chunk-test.false c.loop-chunk.invariant.back c.in_ok-push_words-2.ensures.back in
    let view = ap (λ es. all_slots es last) c.deref-chunk-items.ensures.value ∙ ap (λ v. v.slots) c.self.view_is in
    record {
      are = ap (map key_slot) (keys ∙ ap (map word_key) view) ∙ words_are c.args.self.now.slots;
      back = subst (λ (ss : List Slot). All told ss) view back;
    }
