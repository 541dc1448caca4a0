use Rattle.std.proofs.Common.{◌≡◌, ◌∙◌, ◌++◌, List, Bor, ℕ, All, ap, arith, refl, subst, sym, take}
use Rattle.std.proofs.lemmas.List.{take_all, take_more}
use Rattle.std.proofs.lemmas.List.Elements.{All-append}
use Rattle.gb_hash.specs.Chunks.{texts_in}
use Rattle.gb_hash.specs.Short.{IsShort}
use Rattle.gb_hash.proofs.ChunkLemmas.{texts_more}
use Rattle.gb_hash.proofs.list_rows.ByteChunks+Text.are_short.Goals as goal

pub loop-chunk-preserved : goal.loop-chunk-preserved
loop-chunk-preserved c =
    let chunks = c.deref-chunk-items.result.now in
    let k = c.loop-chunk.chunk-index in
    let chunk = c.chunk-item.result in
    let more = ap texts_in (take_more chunks k chunk c.loop-chunk-test.true) ∙ texts_more (take k chunks) _
    ∙ ap (λ (item : Bor (List (List ℕ))). texts_in (take k chunks) ++ item.now) (sym c.chunk-item.is) in
    subst (All IsShort) (sym more) (All-append IsShort (texts_in (take k chunks)) chunk.now c.loop-chunk.invariant (c.if-not-is_short_chunk.ensures refl))

pub returns : goal.returns
returns c _ =
    let chunks = c.deref-chunk-items.result.now in
    let k = c.loop-chunk.chunk-index in
    subst (All IsShort) (ap texts_in (take_all k chunks (omega (arith, c.loop-chunk-test.false)) ∙ c.deref-chunk-items.ensures.value) ∙ c.self.view_is) c.loop-chunk.invariant
