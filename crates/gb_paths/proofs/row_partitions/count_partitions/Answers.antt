use Rattle.std.proofs.Common.{arith, ◌≡◌, ◌<◌, ◌≤◌, length, ap, sym, ◌∙◌}
use Rattle.std.proofs.lemmas.List.{take_all}
use Rattle.gb_defs.specs.Hash.{partition_of}
use Rattle.gb_groups.specs.Numbers.{counts_by}
use Rattle.gb_paths.specs.Partitions.{partitions_by, share_of}
use Rattle.gb_paths.proofs.MemberLemmas.{partition_counted, partitions_counted, within_more}
use Rattle.gb_paths.proofs.HashLemmas.{share_long, share_read}
use Rattle.gb_paths.proofs.row_partitions.count_partitions.Goals as goal

pub loop-place-preserved : goal.loop-place-preserved
loop-place-preserved c =
    let n = length c.args.counts.now in
    let mine = share_of c.args.hashes.now c.args.share in
    let place = c.loop-place.place in
    let at = c.hash_to_partition.ensures in
    let lt : place < length mine = omega (arith, share_long c.args.hashes.now c.args.share c.requires.inside) in
    let is = at.value ∙ ap (λ h. partition_of h n) (c.hash_of.ensures ∙ sym (share_read c.args.hashes.now c.args.share place c.loop-place-test.true)) in
    let inside : c.hash_to_partition.result < length c.loop-place.counts = omega (arith, at.below) in
    record {
      counted = partition_counted n place _ mine c.loop-place.counts lt is inside c.loop-place.invariant.counted;
      within = within_more n place _ mine lt is at.below c.loop-place.invariant.within;
    }

pub returns-clause-within : goal.returns-clause-within
returns-clause-within c =
    let mine = share_of c.args.hashes.now c.args.share in
    let all : length mine ≤ c.loop-place.place = omega (arith, share_long c.args.hashes.now c.args.share c.requires.inside) in
    rw (take_all c.loop-place.place mine all) at c.loop-place.invariant.within

pub returns-clause-counts : goal.returns-clause-counts
returns-clause-counts c =
    let n = length c.args.counts.now in
    let mine = share_of c.args.hashes.now c.args.share in
    let all : length mine ≤ c.loop-place.place = omega (arith, share_long c.args.hashes.now c.args.share c.requires.inside) in
    let long : length c.loop-place.counts ≡ n = omega arith in
    partitions_counted n c.loop-place.place mine c.loop-place.counts all c.loop-place.invariant.counted
    ∙ ap (counts_by (partitions_by n mine)) long
