use Rattle.std.proofs.Common.{◌≡◌, ◌∙◌, ◌+◌, ◌≤◌, length, ap, arith, refl}
use Rattle.gb_cols.proofs.ChunkedLemmas.{before_more}
use Rattle.gb_defs.specs.Column.{ColumnValue}
use Rattle.gb_defs.specs.Hash.{combine_of}
use Rattle.gb_row_hash.specs.Hashes.{combined_hashes, slot_hash}
use Rattle.gb_row_hash.proofs.ColumnLemmas.{chunk_combined, chunk_inside, column_combined, last_combined}
use Rattle.gb_row_hash.proofs.column_hash.ChunkedArrayVecHash.vec_hash_combine.Goals as goal

pub overflow_add-end : goal.overflow_add-end
overflow_add-end g c =
    let all = ap (λ (v : ColumnValue). v.slots) c.chunks.ensures in
    let inside = chunk_inside c.chunks.result.0.now c.chunks.result.1.now c.chunk-item.result c.args.self.now.slots c.loop-chunk.chunk-index c.loop-chunk.start c.loop-chunk-test.true c.chunk-item.is all c.loop-chunk.invariant.start in
    omega (arith, inside, c.len.ensures.value, c.requires)

pub offset_bounds-hashes-start : goal.offset_bounds-hashes-start
offset_bounds-hashes-start g c =
    let all = ap (λ (v : ColumnValue). v.slots) c.chunks.ensures in
    let inside = chunk_inside c.chunks.result.0.now c.chunks.result.1.now c.chunk-item.result c.args.self.now.slots c.loop-chunk.chunk-index c.loop-chunk.start c.loop-chunk-test.true c.chunk-item.is all c.loop-chunk.invariant.start in
    omega (arith, inside, c.requires)

pub slice_bounds-combine_chunk-end : goal.slice_bounds-combine_chunk-end
slice_bounds-combine_chunk-end g c =
    let all = ap (λ (v : ColumnValue). v.slots) c.chunks.ensures in
    let inside = chunk_inside c.chunks.result.0.now c.chunks.result.1.now c.chunk-item.result c.args.self.now.slots c.loop-chunk.chunk-index c.loop-chunk.start c.loop-chunk-test.true c.chunk-item.is all c.loop-chunk.invariant.start in
    omega (arith, inside, c.len.ensures.value, c.requires, c.loop-chunk.auto.hashes)

pub loop-chunk-preserved : goal.loop-chunk-preserved
loop-chunk-preserved g c =
    let earlier = c.chunks.result.0.now in
    let chunk = c.chunk-item.result in
    let hash = slot_hash g.V.Values.dtype (g.M.Mixer.seed_of c.new-mixer.result) (g.M.Mixer.mix_of c.new-mixer.result) in
    let loop = c.loop-chunk in
    let i = loop.chunk-index in
    let long : loop.start + c.len.result ≡ loop.start + length chunk = ap (λ n. loop.start + n) c.len.ensures.value in
    record {
      more = chunk_combined earlier c.chunks.result.1.now hash (combine_of g.V.Values.dtype) c.args.hashes.now chunk i loop.hashes c.combine_chunk.new.hashes loop.start (loop.start + c.len.result)
          c.loop-chunk-test.true c.chunk-item.is loop.invariant.more loop.invariant.start long c.combine_chunk.ensures;
      start = omega (arith, before_more earlier chunk i c.loop-chunk-test.true c.chunk-item.is, loop.invariant.start, long);
    }

pub returns-clause-ok : goal.returns-clause-ok
returns-clause-ok g c =
    let earlier = c.chunks.result.0.now in
    let last = c.chunks.result.1.now in
    let mixer = c.new-mixer.result in
    let t = g.V.Values.dtype in
    let hash = slot_hash t (g.M.Mixer.seed_of mixer) (g.M.Mixer.mix_of mixer) in
    let loop = c.loop-chunk in
    let column = c.args.self.now in
    let before = c.args.hashes.now in
    let all = ap (λ (v : ColumnValue). v.slots) c.chunks.ensures in
    let made = last_combined earlier last hash (combine_of t) before loop.chunk-index loop.hashes c.combine_chunk-2.new.hashes loop.start
    c.loop-chunk-test.false (loop.auto.hashes ∙ c.requires ∙ ap length all) loop.invariant.more loop.invariant.start c.combine_chunk-2.ensures in
    column_combined earlier last (g.M.Mixer.seed_of mixer) (g.M.Mixer.mix_of mixer) t column before _ c.allocator.ensures.typed all made
    ∙ ap (λ m. combined_hashes (g.M.Mixer.seed_of m) (g.M.Mixer.mix_of m) column before) c.new-mixer.ensures
