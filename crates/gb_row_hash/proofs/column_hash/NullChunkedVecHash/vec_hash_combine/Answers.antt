use Rattle.std.proofs.Common.{◌≡◌, ◌∙◌, ◌<◌, ◌≤◌, List, ℕ, length, get_or, replicate, ap, arith, sym}
use Rattle.std.proofs.lemmas.List.{get_or-replicate, length-replicate}
use Rattle.gb_defs.specs.ColumnType.{ColumnType}
use Rattle.gb_defs.specs.Hash.{boost_combine, combine_of}
use Rattle.gb_row_hash.specs.Hashes.{combine_each, slot_hashes}
use Rattle.gb_row_hash.proofs.ColumnLemmas.{null_hashes}
use Rattle.gb_row_hash.proofs.CombineLemmas.{combine_done, combine_one}
use Rattle.gb_row_hash.proofs.column_hash.NullChunkedVecHash.vec_hash_combine.Goals as goal

pub loop-hash-preserved : goal.loop-hash-preserved
loop-hash-preserved g c =
    let null = c.hash_null-null.result in
    let count = length c.args.hashes.now in
    let own = replicate count null in
    let now = c.loop-hash.hashes in
    let i = c.loop-hash.hash-index in
    let low : i < length own = omega (arith, c.loop-hash-test.true, length-replicate count null) in
    let inside : i < length now = omega (arith, c.loop-hash-test.true, c.loop-hash.auto.hashes) in
    let new = c._boost_hash_combine.ensures ∙ ap (λ h. boost_combine h (get_or now i 0)) (sym (get_or-replicate count i null 0 c.loop-hash-test.true)) in
    combine_one boost_combine own now i c._boost_hash_combine.result low inside new ∙ c.loop-hash.invariant

pub returns-clause-ok : goal.returns-clause-ok
returns-clause-ok g c =
    let column = c.args.self.now in
    let before = c.args.hashes.now in
    let null = c.hash_null-null.result in
    let own = replicate (length before) null in
    let seed = g.M.Mixer.seed_of c.args.random_state in
    let mix = g.M.Mixer.mix_of c.args.random_state in
    let done : length c.loop-hash.hashes ≤ c.loop-hash.hash-index = omega (arith, c.loop-hash-test.false, c.loop-hash.auto.hashes) in
    let nulls = null_hashes column.dtype seed mix column.slots (length before) null c.allocator.ensures.nulls (sym c.requires) c.hash_null-null.ensures in
    sym (combine_done boost_combine own c.loop-hash.hashes c.loop-hash.hash-index done) ∙ c.loop-hash.invariant
    ∙ ap (λ (hs : List ℕ). combine_each boost_combine hs before) (sym nulls)
    ∙ ap (λ (t : ColumnType). combine_each (combine_of t) (slot_hashes seed mix column) before) (sym c.allocator.ensures.typed)
