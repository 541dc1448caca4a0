use Rattle.std.proofs.Common.{ap}
use Rattle.gb_paths.specs.PlainWords.{HasPlainMore}
use Rattle.gb_paths.proofs.PlainWordLemmas.{plain_chunk, plain_last}
use Rattle.gb_paths.proofs.plain_words.plain_words.Goals as goal

pub loop-chunk-preserved : goal.loop-chunk-preserved
loop-chunk-preserved g c =
    let t = g.T.Native.Native.flat in
    let chunk = c.chunk-item.result in
    let words = c.loop-chunk.words.items in
    let grown = c.push_plain.new.words.items in
    let here : HasPlainMore t chunk words grown = rw c.if-not-branch.false at c.in_ok-push_plain.ensures in
    plain_chunk t c.chunks.result.0.now c.loop-chunk.chunk-index chunk words grown c.loop-chunk-test.true c.chunk-item.is c.loop-chunk.invariant here

pub returns : goal.returns
returns g c =
    let t = g.T.Native.Native.flat in
    let last = c.chunks.result.1.now in
    let words = c.loop-chunk.words.items in
    let grown = c.push_plain-2.new.words.items in
    let here : HasPlainMore t last words grown = rw c.if-not-branch-2.false at c.in_ok-push_plain-2.ensures in
    let slots = ap (λ v. v.slots) c.chunks.ensures in
    plain_last t c.chunks.result.0.now c.loop-chunk.chunk-index last c.args.column.now.slots words grown c.loop-chunk-test.false slots c.loop-chunk.invariant here
