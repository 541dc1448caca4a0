use Rattle.std.proofs.Common.{arith, ◌≡◌, ◌+◌, ◌-◌, ◌*◌, min}
use Rattle.gb_paths.proofs.HashLemmas.{chunk_more}
use Rattle.gb_paths.proofs.row_hashes.hash_chunks.Goals as goal

pub loop-place-preserved : goal.loop-place-preserved
loop-place-preserved g c =
    let rows = g.R.KeyRows.rows c.args.rows.now in
    let first = c.args.range.0 in
    let place = c.loop-place.place in
    let long : c.min-long.result ≡ min 8192 (rows.count - (first + place) * 8192) = omega arith in
    record {
      so_far = chunk_more rows first place _ _ _ _ c.push_reserved.ensures.items c.loop-place.invariant.so_far long c.in_ok-hash_rows.ensures;
      each = omega arith;
      room = omega arith;
    }
