use Rattle.std.proofs.Common.{arith, ◌≡◌, ℕ, List, length, ap, take, ◌++◌, ◌∙◌}
use Rattle.std.specs.List.{AllZip, range_with_len}
use Rattle.std.proofs.lemmas.List.FromFn.{length-map-range_with_len}
use Rattle.std.proofs.lemmas.Slice.Zip.{AllZip-long}
use Rattle.smallvec.specs.SmallVec.{SmallVec}
use Rattle.gb_groups.specs.Groups.{lists_of}
use Rattle.gb_groups.specs.Numbers.{count_of, counts_by, lists_by, IsRoomFor}
use Rattle.gb_paths.specs.Partitions.{AreDealt, AreWithin, partitions_by, share_of}
use Rattle.gb_groups.proofs.NumberLemmas.{refilled}
use Rattle.gb_paths.proofs.row_partitions.partition_share.Goals as goal

as_many : (numbers counts : List ℕ) (n : ℕ) (lists : List (SmallVec ℕ)) → counts ≡ counts_by numbers n → AllZip IsRoomFor counts lists → length lists ≡ n
as_many numbers counts n lists counted made = AllZip-long IsRoomFor counts lists made ∙ ap length counted ∙ length-map-range_with_len (count_of numbers) 0 n

-- the lists that are given
given : (n : ℕ) (share : ℕ × ℕ) (hashes : List ℕ) (new old : List (SmallVec ℕ)) (kept m : ℕ) → length new ≡ kept → m ≡ n →
    lists_of new ≡ lists_by (range_with_len share.0 share.1) (partitions_by m (share_of hashes share)) m → AreWithin n (share_of hashes share) → AreDealt n hashes share (take kept (new ++ old))
given n share hashes new old kept m long many filled within = record {
  listed = ap lists_of (refilled kept new old long) ∙ filled ∙ ap (λ k. lists_by (range_with_len share.0 share.1) (partitions_by k (share_of hashes share)) k) many;
  within = within;
}

pub fill_partitions-requires-clause-room : goal.fill_partitions-requires-clause-room
fill_partitions-requires-clause-room c =
    let mine = share_of c.args.hashes.now c.args.share in
    let made = rw c.as_slice.ensures.value at c.in_ok-lists.ensures in
    let long : length c.as_mut_slice.result.now ≡ c.args.n_partitions = ap length c.as_mut_slice.ensures.value ∙ as_many (partitions_by c.args.n_partitions mine) _ c.args.n_partitions _ c.in_ok-counts.ensures.counts made in
    rw (long, c.as_mut_slice.ensures.value, ← c.in_ok-counts.ensures.counts) made

pub returns-clause-ok : goal.returns-clause-ok
returns-clause-ok c =
    let mine = share_of c.args.hashes.now c.args.share in
    let made = rw c.as_slice.ensures.value at c.in_ok-lists.ensures in
    let long : length c.as_mut_slice.result.now ≡ c.args.n_partitions = ap length c.as_mut_slice.ensures.value ∙ as_many (partitions_by c.args.n_partitions mine) _ c.args.n_partitions _ c.in_ok-counts.ensures.counts made in
    let kept : length c.fill_partitions.new.lists ≡ c.in_ok-lists.lists.len = omega arith in
    given c.args.n_partitions c.args.share c.args.hashes.now c.fill_partitions.new.lists _ _ _ kept long c.fill_partitions.ensures c.in_ok-counts.ensures.within
