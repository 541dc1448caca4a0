use Rattle.std.proofs.Common.{arith, ◌+◌, refl}
use Rattle.std.proofs.lemmas.List.FromFn.{map-range_with_len_more}
use Rattle.gb_paths.proofs.HashLemmas.{hashes_long}
use Rattle.gb_paths.proofs.row_hashes.hash_rows.Goals as goal

pub push_reserved-requires : goal.push_reserved-requires
push_reserved-requires g c =
    let long = hashes_long _ c.args.start c.loop-place.place _ c.loop-place.invariant.so_far in
    omega (arith, long, c.loop-place.hashes.ok.0)

pub loop-place-preserved : goal.loop-place-preserved
loop-place-preserved g c =
    let start = c.args.start in
    let place = c.loop-place.place in
    record {
      so_far = rw (c.push_reserved.ensures.items, c.loop-place.invariant.so_far, c.hash_at.ensures, map-range_with_len_more (g.R.KeyRows.rows c.args.rows.now).hash start place (start + place) refl);
      room = omega arith;
    }
