use Rattle.std.proofs.Common.{◌≡◌, ◌<◌, ◌∙◌, ℕ, All, List, Vec, ap, arith, get_or, length, map, sym}
use Rattle.std.specs.List.{AllByRecursion, range_with_len}
use Rattle.std.proofs.lemmas.Simd.{map-map}
use Rattle.std.proofs.lemmas.List.Elements.{All-from_recursion, recursion_from_All}
use Rattle.std.proofs.lemmas.List.{length-map}
use Rattle.smallvec.specs.SmallVec.{SmallVec}
use Rattle.gb_defs.specs.Classes.{rows_below}
use Rattle.gb_defs.specs.Rows.{Rows}
use Rattle.gb_paths.specs.Leaders.{leader_among, led, led_partitions}
use Rattle.gb_paths.specs.declared.leaders.LedRows.{LedRows}
use Rattle.gb_paths.specs.Partitions.{list_joined, lists_joined, rows_by_partition}
use Rattle.gb_paths.proofs.HashLemmas.{all_hashed}
use Rattle.gb_paths.proofs.LeaderLemmas.{IsInside, IsPut, IsRight, all_led, led_lists, led_right, parts_inside, with_leaders}
use Rattle.gb_paths.proofs.MemberLemmas.{rows_within}
use Rattle.gb_paths.proofs.number_partitions.find_leaders.Goals as goal

pub partition_rows-requires-clause-few : goal.partition_rows-requires-clause-few
partition_rows-requires-clause-few g c =
    omega (arith, c.in_ok-hashes.ensures.all, c.requires.few)

pub lead_partitions-requires-clause-split : goal.lead_partitions-requires-clause-split
lead_partitions-requires-clause-split g c κs within = record {
  listed = record {
    few = c.requires.few;
    each = rw c.deref.ensures.value c.in_ok-shares.ensures.each;
    members = rw c.deref.ensures.value c.in_ok-shares.ensures.members;
    hashed = c.in_ok-hashes.ensures.hashes;
  };
  split =
      let rows = g.R.KeyRows.rows c.args.rows.now in
      let long : length c.in_ok-hashes.hashes ≡ rows.count = c.in_ok-hashes.ensures.all in
      rw c.deref.ensures.value (rw long at (c.in_ok-shares.ensures.rows rows c.in_ok-hashes.ensures.hashes));
}

-- what is known of the parts
module _ {A : Type 0} (rows : Rows) (shares : List (Vec (SmallVec ℕ) A)) (n : ℕ) (parts lent : List LedRows) (made : map led parts ≡ led_partitions rows shares (0, n))
    (split : lists_joined n shares ≡ rows_by_partition rows.hash n (rows_below rows.count)) (is : lent ≡ parts) where
  parts_with : map led lent ≡ map (with_leaders (leader_among rows)) (rows_by_partition rows.hash n (rows_below rows.count))
  parts_with = ap (map led) is ∙ made ∙ sym (map-map (with_leaders (leader_among rows)) (list_joined shares) (range_with_len 0 n)) ∙ ap (map (with_leaders (leader_among rows))) split

  parts_right : AllByRecursion (IsRight (leader_among rows)) lent
  parts_right = led_right (leader_among rows) lent _ parts_with

  parts_rows : map (λ part. part.rows.items) lent ≡ rows_by_partition rows.hash n (rows_below rows.count)
  parts_rows = led_lists (leader_among rows) lent _ parts_with

  parts_each : All (λ part. length part.leaders.items ≡ length part.rows.items) lent
  parts_each k d lt =
      let part = get_or lent k d in
      ap length (All-from_recursion (IsRight (leader_among rows)) lent parts_right k d lt) ∙ length-map part.rows.items (leader_among rows)

  parts_low : All (λ part. All (λ row. row < rows.count) part.rows.items) lent
  parts_low k d lt = All-from_recursion (λ row. row < rows.count) (get_or lent k d).rows.items
      (All-from_recursion (IsInside rows.count) lent (parts_inside rows.hash n rows.count lent parts_rows) k d lt)

pub join_leaders-requires-clause-each : goal.join_leaders-requires-clause-each
join_leaders-requires-clause-each g c κs within =
    let rows = g.R.KeyRows.rows c.args.rows.now in
    let long : length c.in_ok-hashes.hashes ≡ rows.count = c.in_ok-hashes.ensures.all in
    let split = rw long at (c.in_ok-shares.ensures.rows rows c.in_ok-hashes.ensures.hashes) in
    parts_each rows c.in_ok-shares.shares.items c.max-partitions.result c.in_ok-parts.parts.items c.deref-2.result.now (rw c.deref.ensures.value at c.in_ok-parts.ensures.ok) split c.deref-2.ensures.value κs within

pub join_leaders-requires-clause-inside : goal.join_leaders-requires-clause-inside
join_leaders-requires-clause-inside g c κs within =
    let rows = g.R.KeyRows.rows c.args.rows.now in
    let long : length c.in_ok-hashes.hashes ≡ rows.count = c.in_ok-hashes.ensures.all in
    let split = rw long at (c.in_ok-shares.ensures.rows rows c.in_ok-hashes.ensures.hashes) in
    rw c.len-2.ensures
    (parts_low rows c.in_ok-shares.shares.items c.max-partitions.result c.in_ok-parts.parts.items c.deref-2.result.now (rw c.deref.ensures.value at c.in_ok-parts.ensures.ok) split c.deref-2.ensures.value κs within)

pub returns-clause-ok : goal.returns-clause-ok
returns-clause-ok g c =
    let rows = g.R.KeyRows.rows c.args.rows.now in
    let n = c.max-partitions.result in
    let hashes = c.in_ok-hashes.hashes in
    let long : length hashes ≡ rows.count = c.in_ok-hashes.ensures.all in
    let hashed = all_hashed rows hashes c.in_ok-hashes.ensures.hashes long in
    let split = rw long at (c.in_ok-shares.ensures.rows rows c.in_ok-hashes.ensures.hashes) in
    let made = rw c.deref.ensures.value at c.in_ok-parts.ensures.ok in
    let lent = c.deref-2.result.now in
    let leaders = c.in_ok-leaders.leaders.items in
    let right = parts_right rows c.in_ok-shares.shares.items n c.in_ok-parts.parts.items lent made split c.deref-2.ensures.value in
    let are = parts_rows rows c.in_ok-shares.shares.items n c.in_ok-parts.parts.items lent made split c.deref-2.ensures.value in
    let put = c.in_ok-leaders.ensures.each (leader_among rows) (All-from_recursion (IsRight (leader_among rows)) lent right) in
    let each : AllByRecursion (IsPut (leader_among rows) leaders) lent =
    recursion_from_All (IsPut (leader_among rows) leaders) lent (λ k d lt. recursion_from_All (λ row. get_or leaders row 0 ≡ leader_among rows row) (get_or lent k d).rows.items (put k d lt)) in
    all_led rows.hash n rows.count (leader_among rows) leaders lent are (rows_within n rows.count rows.hash hashes hashed c.in_ok-shares.ensures.within) (c.in_ok-leaders.ensures.length ∙ c.len-2.ensures) each
