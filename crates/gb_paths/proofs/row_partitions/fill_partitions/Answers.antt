use Rattle.std.proofs.Common.{arith, ◌≡◌, ◌+◌, ◌<◌, ◌≤◌, ℕ, List, length, ap, sym, ◌∙◌, get_or}
use Rattle.std.specs.List.{range_with_len}
use Rattle.std.proofs.lemmas.List.{get_or-map, length-map}
use Rattle.std.proofs.lemmas.List.FromFn.{get_or-range_with_len, length-range_with_len}
use Rattle.gb_defs.specs.Hash.{partition_of}
use Rattle.gb_groups.specs.Numbers.{lists_by}
use Rattle.gb_paths.specs.Partitions.{partitions_by, share_of}
use Rattle.gb_paths.proofs.HashLemmas.{share_long, share_read}
use Rattle.gb_groups.proofs.NumberLemmas.{filled_none, filled_room, filled_more, filled_all}
use Rattle.gb_paths.proofs.row_partitions.fill_partitions.Goals as goal

module _ (n : ℕ) (hashes : List ℕ) (share : ℕ × ℕ) (inside : share.0 + share.1 ≤ length hashes) where
  many : length (partitions_by n (share_of hashes share)) ≡ share.1
  many = length-map (share_of hashes share) (λ h. partition_of h n) ∙ share_long hashes share inside

  each : length (partitions_by n (share_of hashes share)) ≡ length (range_with_len share.0 share.1)
  each = many ∙ sym (length-range_with_len share.0 share.1)

  within : (place : ℕ) → place < share.1 → place < length (partitions_by n (share_of hashes share))
  within place lt = omega (arith, lt, many)

  number_is : (place hash number : ℕ) → place < share.1 → hash ≡ get_or hashes (share.0 + place) 0 → number ≡ partition_of hash n → get_or (partitions_by n (share_of hashes share)) place 0 ≡ number
  number_is place hash number lt read is =
      let here : place < length (share_of hashes share) = omega (arith, lt, share_long hashes share inside) in
      get_or-map (λ h. partition_of h n) (share_of hashes share) place 0 0 here ∙ ap (λ h. partition_of h n) (share_read hashes share place lt ∙ sym read) ∙ sym is

pub loop-place-init : goal.loop-place-init
loop-place-init c = filled_none _ _ _ c.requires.room

pub push_reserved-requires : goal.push_reserved-requires
push_reserved-requires c =
    let n = length c.args.lists.now in
    let hashes = c.args.hashes.now in
    let share = c.args.share in
    let place = c.loop-place.place in
    let lt = c.loop-place-test.true in
    let number = c.hash_to_partition-partition.result in
    let is = number_is n hashes share c.requires.inside place _ number lt c.hash_of.ensures c.hash_to_partition-partition.ensures.value in
    let row_is : get_or (range_with_len share.0 share.1) place 0 ≡ share.0 + place = get_or-range_with_len share.0 share.1 place 0 lt in
    let here : number < length c.loop-place.lists = omega (arith, c.hash_to_partition-partition.ensures.below) in
    (omega arith, filled_room (range_with_len share.0 share.1) (partitions_by n (share_of hashes share)) (each n hashes share c.requires.inside) place number _ (within n hashes share c.requires.inside place lt) is row_is _ (c.loop-place.invariant number _ here))

pub loop-place-preserved : goal.loop-place-preserved
loop-place-preserved c =
    let n = length c.args.lists.now in
    let hashes = c.args.hashes.now in
    let share = c.args.share in
    let place = c.loop-place.place in
    let lt = c.loop-place-test.true in
    let number = c.hash_to_partition-partition.result in
    let is = number_is n hashes share c.requires.inside place _ number lt c.hash_of.ensures c.hash_to_partition-partition.ensures.value in
    let row_is : get_or (range_with_len share.0 share.1) place 0 ≡ share.0 + place = get_or-range_with_len share.0 share.1 place 0 lt in
    let here : number < length c.loop-place.lists = omega (arith, c.hash_to_partition-partition.ensures.below) in
    filled_more (range_with_len share.0 share.1) (partitions_by n (share_of hashes share)) (each n hashes share c.requires.inside) place number _ (within n hashes share c.requires.inside place lt) is row_is c.loop-place.lists c.index-lists-partition.result c.push_reserved.new.self here c.push_reserved.ensures.items c.push_reserved.ensures.capacity c.loop-place.invariant

pub returns : goal.returns
returns c =
    let n = length c.args.lists.now in
    let hashes = c.args.hashes.now in
    let share = c.args.share in
    let rows = range_with_len share.0 share.1 in
    let numbers = partitions_by n (share_of hashes share) in
    let all : length numbers ≤ c.loop-place.place = omega (arith, many n hashes share c.requires.inside) in
    let long : length c.loop-place.lists ≡ n = omega arith in
    filled_all rows numbers c.loop-place.place c.loop-place.lists (each n hashes share c.requires.inside) all c.loop-place.invariant ∙ ap (lists_by rows numbers) long
