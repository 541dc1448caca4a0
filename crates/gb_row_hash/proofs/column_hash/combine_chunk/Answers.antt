use Rattle.std.proofs.Common.{◌≡◌, ◌∙◌, ◌<◌, length, map, get_or, ap, arith, sym}
use Rattle.std.proofs.lemmas.List.{get_or-map, length-map}
use Rattle.gb_defs.specs.Hash.{combine_of}
use Rattle.gb_defs.specs.Slot.{Nil}
use Rattle.gb_row_hash.specs.Hashes.{slot_hash}
use Rattle.gb_row_hash.proofs.CombineLemmas.{combine_one}
use Rattle.gb_row_hash.proofs.column_hash.combine_chunk.Goals as goal

pub loop-i-preserved : goal.loop-i-preserved
loop-i-preserved g c =
    let f = combine_of g.V.Values.dtype in
    let hash = slot_hash g.V.Values.dtype (g.M.Mixer.seed_of c.args.mixer.now) (g.M.Mixer.mix_of c.args.mixer.now) in
    let slots = c.args.chunk.now in
    let now = c.loop-i.hashes in
    let i = c.loop-i.i in
    let low : i < length slots = omega (arith, c.loop-i-test.true, c.requires) in
    let inside : i < length now = omega (arith, c.loop-i-test.true, c.loop-i.auto.hashes) in
    let own : c.hash_at.result ≡ get_or (map hash slots) i 0 = c.hash_at.ensures ∙ sym (get_or-map hash slots i Nil 0 low) in
    let new = c.combine.ensures ∙ ap (λ h. f h (get_or now i 0)) own in
    combine_one f (map hash slots) now i c.combine.result (omega (arith, low, length-map slots hash)) inside new ∙ c.loop-i.invariant
