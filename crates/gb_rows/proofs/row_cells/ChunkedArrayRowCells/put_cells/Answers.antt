use Rattle.std.proofs.Common.{◌≡◌, ◌<◌, ◌≤◌, ◌++◌, ◌+◌, ◌-◌, List, ℕ, length, map, drop, ap, arith, subst, sym, ◌∙◌}
use Rattle.std.specs.List.{flat_map}
use Rattle.gb_defs.specs.Column.{ColumnValue}
use Rattle.gb_defs.specs.RowBytes.{slot_bytes}
use Rattle.gb_defs.specs.Slices.{between}
use Rattle.gb_defs.specs.Slot.{Slot}
use Rattle.gb_rows.proofs.RangeLemmas.{chunk_left, chunks_are, chunks_done, column_cells}
use Rattle.gb_rows.proofs.row_cells.ChunkedArrayRowCells.put_cells.Goals as goal

pub loop-chunk-preserved : goal.loop-chunk-preserved
loop-chunk-preserved g c =
    let f = slot_bytes g.V.Values.dtype in
    let earlier = c.chunks.result.0.now in
    let last = c.chunks.result.1.now in
    let loop = c.loop-chunk in
    let chunk = c.chunk-item.result in
    let s = c.saturating_sub-start.result in
    let e = c.saturating_sub-end.result in
    let lt : loop.chunk-index < length earlier = omega (arith, c.loop-chunk-test.true, loop.auto.chunk-index-end) in
    let from : s ≡ loop.start - length chunk = omega (arith, c.saturating_sub-start.ensures, c.len.ensures.value) in
    let to : e ≡ loop.end - length chunk = omega (arith, c.saturating_sub-end.ensures, c.len-in-loop-chunk.ensures.value) in
    let left = map f (between s e (flat_map (λ c. c) (drop (loop.chunk-index + 1) earlier) ++ last)) in
    let both = chunk_left f earlier last chunk loop.chunk-index loop.start loop.end s e lt c.chunk-item.is from to in
    λ after rest. loop.invariant after (subst (λ (cells : List (List ℕ)). g.S.CellSink.HasTaken cells loop.sink after) (sym both) (g.met.S.CellSink.took_more (map f (between loop.start loop.end chunk)) left loop.sink c.put_chunk.new.sink after c.in_ok-put_chunk.ensures rest))

pub returns : goal.returns
returns g c =
    let t = g.V.Values.dtype in
    let earlier = c.chunks.result.0.now in
    let last = c.chunks.result.1.now in
    let loop = c.loop-chunk in
    let after = c.put_chunk-2.new.sink in
    let done : length earlier ≤ loop.chunk-index = omega (arith, c.loop-chunk-test.false, loop.auto.chunk-index-end) in
    let rest = subst (λ (cells : List (List ℕ)). g.S.CellSink.HasTaken cells loop.sink after) (chunks_done (slot_bytes t) earlier last loop.chunk-index loop.start loop.end done) c.in_ok-put_chunk-2.ensures in
    let slots = chunks_are c.args.self.now earlier last (ap (λ (v : ColumnValue). v.slots) c.chunks.ensures) in
    let all = ap (λ (l : List Slot). map (slot_bytes t) (between c.args.start c.args.end l)) slots ∙ column_cells c.args.self.now t c.args.start c.args.end c.allocator.ensures.typed in
    subst (λ (cells : List (List ℕ)). g.S.CellSink.HasTaken cells c.args.sink.now after) all (loop.invariant after rest)
