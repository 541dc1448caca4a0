use Rattle.std.proofs.Common.{arith, ◌≡◌, ◌∙◌, ℕ, ◌+◌, List, ◌∷◌, [], ◌++◌, Vec, ap, length, refl, sym}
use Rattle.std.proofs.lemmas.List.{map-append}
use Rattle.std.proofs.lemmas.List.FromFn.{map-range_with_len_more}
use Rattle.smallvec.specs.SmallVec.{SmallVec}
use Rattle.gb_defs.specs.Groups.{AreMembers}
use Rattle.gb_defs.specs.Rows.{Rows}
use Rattle.gb_groups.specs.Groups.{pairs_of}
use Rattle.gb_paths.specs.Numbers.{groups_among}
use Rattle.gb_paths.specs.Partitions.{groups_of_partitions, groups_of_parts, list_joined}
use Rattle.gb_paths.proofs.JoinLemmas.{joined_at}
use Rattle.gb_paths.proofs.threaded.group_partitions.Goals as goal

-- the groups of one partition more
part_more : {A B : Type 0} (rows : Rows) (shares : List (Vec (SmallVec ℕ) A)) (start place : ℕ) (parts after : List (Vec (ℕ × SmallVec ℕ) B)) (part : Vec (ℕ × SmallVec ℕ) B) → after ≡ parts ++ part ∷ [] →
    groups_of_parts parts ≡ groups_of_partitions rows shares (start, place) → pairs_of part.items ≡ groups_among rows (list_joined shares (start + place)) → groups_of_parts after ≡ groups_of_partitions rows shares (start, place + 1)
part_more rows shares start place parts after part longer so_far here =
    ap groups_of_parts longer ∙ map-append (λ part. pairs_of part.items) parts (part ∷ [])
    ∙ ap (λ gs. gs ++ pairs_of part.items ∷ []) so_far ∙ ap (λ g. groups_of_partitions rows shares (start, place) ++ g ∷ []) here
    ∙ sym (map-range_with_len_more (λ partition. groups_among rows (list_joined shares partition)) start place (start + place) refl)

pub join_partition-requires-clause-members : goal.join_partition-requires-clause-members
join_partition-requires-clause-members g c κs within =
    joined_at (AreMembers (length c.args.hashes.now)) c.args.n_partitions c.args.shares.now c.requires.listed.members (c.args.range.0 + c.loop-place.place) (omega arith)

pub loop-place-preserved : goal.loop-place-preserved
loop-place-preserved g c = record {
  so_far = part_more (g.R.KeyRows.rows c.args.rows.now) c.args.shares.now c.args.range.0 c.loop-place.place _ _ _ c.push_reserved.ensures.items c.loop-place.invariant.so_far c.in_ok-join_partition.ensures.ok;
  each = omega arith;
  room = omega arith;
}
