use Rattle.std.proofs.Common.{arith, ◌≡◌, ◌<◌, ◌==◌, ◌∙◌, ℕ, List, [], ap, ap₂, filter, get_or, length, map, subst, sym, true}
use Rattle.std.specs.Cmp.{on_equiv}
use Rattle.std.proofs.lemmas.List.FromFn.{get_or-map-range_with_len}
use Rattle.gb_defs.specs.Classes.{rows_below}
use Rattle.gb_defs.specs.Groups.{AreMembers}
use Rattle.gb_defs.specs.Hash.{partition_of}
use Rattle.gb_defs.specs.Partitions.{in_partition}
use Rattle.gb_defs.specs.Rows.{same_slot_at}
use Rattle.gb_defs.proofs.SlotLemmas.{Decides-slot_eq, slot_eq_equiv}
use Rattle.gb_paths.specs.Leaders.{leader_among}
use Rattle.gb_paths.specs.Numbering.{AreNumbersOf}
use Rattle.gb_paths.specs.Partitions.{list_joined}
use Rattle.gb_paths.proofs.JoinLemmas.{joined_at}
use Rattle.gb_paths.proofs.LeaderLemmas.{part_led}
use Rattle.gb_paths.proofs.MemberLemmas.{few_members}
use Rattle.gb_paths.proofs.number_partitions.lead_partition.Goals as goal

pub join_lists-requires-clause-few : goal.join_lists-requires-clause-few
join_lists-requires-clause-few g c =
    let members = joined_at (AreMembers (length c.args.hashes.now)) c.args.partitions c.args.shares.now c.requires.split.listed.members c.args.partition c.requires.inside in
    let few = few_members _ _ members in
    omega (arith, few, c.requires.split.listed.hashed.within, c.requires.split.listed.few)

pub number_gathered-requires-clause-members : goal.number_gathered-requires-clause-members
number_gathered-requires-clause-members g c κs within =
    rw (c.deref.ensures.value, c.in_ok-members.ensures)
    (joined_at (AreMembers (length c.args.hashes.now)) c.args.partitions c.args.shares.now c.requires.split.listed.members c.args.partition c.requires.inside)

pub returns-clause-ok : goal.returns-clause-ok
returns-clause-ok g c =
    let rows = g.R.KeyRows.rows c.args.rows.now in
    let agree = same_slot_at rows.slot in
    let n = c.args.partitions in
    let p = c.args.partition in
    let shares = c.args.shares.now in
    let mine = list_joined shares p in
    let alike : (i j : ℕ) → i < rows.count → j < rows.count → agree i j ≡ true → in_partition rows.hash n p i ≡ in_partition rows.hash n p j = λ i j low high same.
    ap (λ h. partition_of h n == p) ((g.met.R.KeyRows g.world.𝓛 g.world.𝓜 g.world.𝓡 ((λ s x. x), (λ x. x), (λ x. x), λ x. x)).hashes_alike c.args.rows.now i j low high ((Decides-slot_eq _ _).0 same)) in
    let split : mine ≡ filter (in_partition rows.hash n p) (rows_below rows.count) =
    sym (get_or-map-range_with_len (list_joined shares) 0 n p p [] c.requires.inside (omega arith))
    ∙ ap (λ ls. get_or ls p []) c.requires.split.split
    ∙ get_or-map-range_with_len (λ q. filter (in_partition rows.hash n q) (rows_below rows.count)) 0 n p p [] c.requires.inside (omega arith) in
    let listed : c.deref.result.now ≡ mine = c.deref.ensures.value ∙ c.in_ok-members.ensures in
    let numbers : AreNumbersOf agree (filter (in_partition rows.hash n p) (rows_below rows.count)) c.in_ok-numbers.numbers.first.items c.in_ok-numbers.numbers.of_rows.items =
    subst (λ rs. AreNumbersOf agree rs c.in_ok-numbers.numbers.first.items c.in_ok-numbers.numbers.of_rows.items) (listed ∙ split) c.in_ok-numbers.ensures.ok in
    let leaders = part_led agree (on_equiv rows.slot slot_eq_equiv) rows.count (in_partition rows.hash n p) alike _ _ numbers in
    ap₂ (λ (a b : List ℕ). (a, b)) c.in_ok-members.ensures (c.in_ok-leaders.ensures ∙ leaders ∙ ap (map (leader_among rows)) (sym split))
