use Rattle.std.proofs.Common.{arith, ◌≡◌, List, ℕ, length, ap, sym, ◌∙◌}
use Rattle.std.specs.List.{AllZip}
use Rattle.std.proofs.lemmas.List.FromFn.{length-map-range_with_len}
use Rattle.std.proofs.lemmas.Slice.Zip.{AllZip-long}
use Rattle.smallvec.specs.SmallVec.{SmallVec}
use Rattle.gb_groups.specs.Groups.{lists_of}
use Rattle.gb_groups.specs.Numbers.{count_of, counts_by, lists_by, IsRoomFor}
use Rattle.gb_groups.proofs.NumberLemmas.{refilled}
use Rattle.gb_groups.proofs.row_lists.row_lists.Goals as goal

module _ (numbers counts : List ℕ) (groups : ℕ) (lists : List (SmallVec ℕ)) (counted : counts ≡ counts_by numbers groups) (made : AllZip IsRoomFor counts lists) where
  as_many : length lists ≡ groups
  as_many = AllZip-long IsRoomFor counts lists made ∙ ap length counted ∙ length-map-range_with_len (count_of numbers) 0 groups

  all_room : AllZip IsRoomFor (counts_by numbers (length lists)) lists
  all_room = rw (as_many, ← counted) made

pub fill_lists-requires-clause-known : goal.fill_lists-requires-clause-known
fill_lists-requires-clause-known g c =
    let made = rw c.as_slice.ensures.value at c.in_ok-lists.ensures in
    let long : length c.as_mut_slice.result.now ≡ c.args.groups = ap length c.as_mut_slice.ensures.value ∙ as_many c.args.numbers.now _ c.args.groups _ c.in_ok-counts.ensures made in
    λ k d lt. rw long (c.requires.known k d lt)

pub fill_lists-requires-clause-room : goal.fill_lists-requires-clause-room
fill_lists-requires-clause-room g c =
    let made = rw c.as_slice.ensures.value at c.in_ok-lists.ensures in
    rw c.as_mut_slice.ensures.value (all_room c.args.numbers.now _ c.args.groups _ c.in_ok-counts.ensures made)

pub fill_lists-requires-clause-counted : goal.fill_lists-requires-clause-counted
fill_lists-requires-clause-counted g c =
    let made = rw c.as_slice.ensures.value at c.in_ok-lists.ensures in
    let long : length c.as_mut_slice.result.now ≡ c.args.groups = ap length c.as_mut_slice.ensures.value ∙ as_many c.args.numbers.now _ c.args.groups _ c.in_ok-counts.ensures made in
    ap length c.as_slice-2.ensures.value ∙ ap length c.in_ok-counts.ensures ∙ length-map-range_with_len (count_of c.args.numbers.now) 0 c.args.groups ∙ sym long

pub returns : goal.returns
returns g c =
    let made = rw c.as_slice.ensures.value at c.in_ok-lists.ensures in
    let long : length c.as_mut_slice.result.now ≡ c.args.groups = ap length c.as_mut_slice.ensures.value ∙ as_many c.args.numbers.now _ c.args.groups _ c.in_ok-counts.ensures made in
    let kept : length c.fill_lists.new.lists ≡ c.in_ok-lists.lists.len = omega arith in
    ap lists_of (refilled _ c.fill_lists.new.lists _ kept) ∙ c.in_ok-fill_lists.ensures ∙ ap (lists_by (g.M.Members.listed c.args.rows.now) c.args.numbers.now) long
