use Rattle.std.proofs.Common.{◌≡◌, ◌+◌, length, map, refl, ap, arith, length-append}
use Rattle.std.proofs.lemmas.List.{length-map}
use Rattle.gb_cols.proofs.ChunkedLemmas.{front_slots}
use Rattle.gb_defs.specs.Column.{ColumnValue}
use Rattle.gb_row_hash.specs.Hashes.{slot_hash}
use Rattle.gb_row_hash.proofs.ColumnLemmas.{chunk_inside}
use Rattle.gb_row_hash.proofs.column_hash.push_column.Goals as goal

pub push_hashes-requires : goal.push_hashes-requires
push_hashes-requires g c =
    let earlier = c.chunks.result.0.now in
    let buf = c.loop-chunk.buf in
    let front = front_slots earlier c.loop-chunk.chunk-index in
    let hash = slot_hash g.V.Values.dtype (g.M.Mixer.seed_of c.new-mixer.result) (g.M.Mixer.mix_of c.new-mixer.result) in
    let count : buf.len ≡ c.args.buf.now.len + length front =
    omega (arith, buf.ok.0, c.args.buf.now.ok.0, ap length c.loop-chunk.invariant.more, length-append c.args.buf.now.items (map hash front), length-map front hash) in
    let all = ap (λ (v : ColumnValue). v.slots) c.chunks.ensures in
    let inside = chunk_inside earlier c.chunks.result.1.now c.chunk-item.result c.args.column.now.slots c.loop-chunk.chunk-index (length front) c.loop-chunk-test.true c.chunk-item.is all refl in
    omega (arith, inside, count, c.loop-chunk.invariant.room)
