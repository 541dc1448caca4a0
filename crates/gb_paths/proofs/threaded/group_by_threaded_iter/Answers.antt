use Rattle.std.proofs.Common.{arith, ◌≡◌, ◌<◌, ℕ, length, ◌∙◌, ap, sym, true, false}
use Rattle.std.specs.List.{range_with_len}
use Rattle.std.proofs.lemmas.Simd.{map-map}
use Rattle.gb_defs.specs.Classes.{groups}
use Rattle.gb_defs.specs.Groups.{Grouping, idx_groups}
use Rattle.gb_defs.specs.Path.{Threaded}
use Rattle.gb_defs.specs.Rows.{AreHashes, same_slot_at}
use Rattle.gb_defs.proofs.SlotLemmas.{Decides-slot_eq}
use Rattle.gb_paths.specs.Partitions.{list_joined, lists_joined}
use Rattle.gb_paths.proofs.FormLemmas.{path_formed}
use Rattle.gb_paths.proofs.HashLemmas.{all_hashed}
use Rattle.gb_paths.proofs.MemberLemmas.{rows_within}
use Rattle.gb_paths.proofs.PartitionLemmas.{by_first_rows, united}
use Rattle.gb_paths.proofs.threaded.group_by_threaded_iter.Goals as goal
use Rattle.gb_paths.proofs.threaded.group_by_threaded_iter.Goals.{then-sorted+in_ok-sort, else-sorted}

pub partition_rows-requires-clause-few : goal.partition_rows-requires-clause-few
partition_rows-requires-clause-few g c =
    omega (arith, c.in_ok-hashes.ensures.all, c.requires.few)

pub deal_partitions-requires-clause-listed : goal.deal_partitions-requires-clause-listed
deal_partitions-requires-clause-listed g c κs within = record {
  few = c.requires.few;
  each = rw c.deref.ensures.value c.in_ok-shares.ensures.each;
  members = rw c.deref.ensures.value c.in_ok-shares.ensures.members;
  hashed = c.in_ok-hashes.ensures.hashes;
}

pub returns-clause-ok : goal.returns-clause-ok
returns-clause-ok g c =
    let rows = g.R.KeyRows.rows c.args.rows.now in
    let agree = same_slot_at rows.slot in
    let n = c.args.n_partitions in
    let hashes = c.in_ok-hashes.hashes in
    let long : length hashes ≡ rows.count = c.in_ok-hashes.ensures.all in
    let are : AreHashes rows 0 hashes = c.in_ok-hashes.ensures.hashes in
    let hashed = all_hashed rows hashes are long in
    let alike : (i j : ℕ) → i < rows.count → j < rows.count → agree i j ≡ true → rows.hash i ≡ rows.hash j = λ i j low high same.
    (g.met.R.KeyRows g.world.𝓛 g.world.𝓜 g.world.𝓡 ((λ s x. x), (λ x. x), (λ x. x), λ x. x)).hashes_alike c.args.rows.now i j low high ((Decides-slot_eq _ _).0 same) in
    let shares = c.deref.result.now in
    let split = rw long at (c.in_ok-shares.ensures.rows rows are) in
    let each = c.in_ok-parts.ensures.ok ∙ sym (map-map (groups agree) (list_joined shares) (range_with_len 0 n)) in
    let all = united agree rows.hash n rows.count (λ part. part.items) c.in_ok-parts.parts.items (lists_joined n shares) alike each (ap (lists_joined n) c.deref.ensures.value ∙ split) in
    let made = c.in_ok-groups.ensures.ok ∙ ap (λ pairs. idx_groups pairs false) all in
    let within = rows_within n rows.count rows.hash hashes hashed c.in_ok-shares.ensures.within in
    c.from.ensures ∙ elim c.if-sorted.branch [
      | then-sorted+in_ok-sort w ↦ rw (w.groups-is, w.if-sorted.true) (by_first_rows agree rows.hash n rows.count c.in_ok-groups.groups _ within made w.in_ok-sort.ensures.sorted w.in_ok-sort.ensures.flagged w.in_ok-sort.ensures.form)
      | else-sorted w ↦ rw (w.groups-is, w.if-sorted.false) made
    ]

pub returns-clause-formed : goal.returns-clause-formed
returns-clause-formed g c = rw (ap (λ (h : Grouping). h.pairs) (returns-clause-ok g c)) (path_formed Threaded (g.R.KeyRows.rows c.args.rows.now) 0 c.args.n_partitions c.args.sorted)
