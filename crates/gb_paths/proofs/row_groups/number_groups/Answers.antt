use Rattle.std.proofs.Common.{arith, ◌≡◌, ◌<◌, ◌≤◌, length, get_or, sym, ◌∙◌}
use Rattle.gb_paths.proofs.KeyLemmas.{alike, few_groups, numbered_none, numbered_old, numbered_new, numbered_groups, numbered_ascend}
use Rattle.gb_paths.proofs.HashLemmas.{hash_of_row}
use Rattle.gb_paths.proofs.MemberLemmas.{few_members, member_inside, members_more}
use Rattle.gb_paths.proofs.row_groups.number_groups.Goals as goal
use Rattle.gb_paths.proofs.row_groups.number_groups.Goals.{then-number-len+in_ok-push, else-number-len}

pub loop-place-init : goal.loop-place-init
loop-place-init g c = record {
  numbered = rw (c.new-first.ensures.items, c.in_ok-of_rows.ensures.items, c.in_ok-table.ensures) (numbered_none _ _ _ _ (g.M.Members.listed c.args.members.now));
  room = omega (arith, c.in_ok-of_rows.ensures.exact);
  counted = omega arith;
}

pub number_of-requires-clause-few : goal.number_of-requires-clause-few
number_of-requires-clause-few g c =
    let groups = few_groups _ _ _ _ c.loop-place.invariant.numbered in
    let rows = few_members _ _ c.requires.members in
    omega (arith, groups, rows, c.requires.hashes.within, c.requires.few, c.loop-place-test.true, c.len-count.ensures)

pub number_of-requires-clause-alike : goal.number_of-requires-clause-alike
number_of-requires-clause-alike g c =
    let rows = g.R.KeyRows.rows c.args.rows.now in
    let row = c.row_at-row.result in
    -- the rows and the keys may go to other threads, so their laws hold wherever a thread may run: here too
    let laws = g.met.R.KeyRows g.world.𝓛 g.world.𝓜 g.world.𝓡 ((λ s x. x), (λ x. x), (λ x. x), λ x. x) in
    let hashes = g.H.RowHashes.hashes c.args.hashes.now in
    let listed = g.M.Members.listed c.args.members.now in
    let lt : c.loop-place.place < length listed = omega (arith, c.loop-place-test.true, c.len-count.ensures) in
    let is : get_or listed c.loop-place.place 0 ≡ row = sym c.row_at-row.ensures in
    let inside = member_inside (length hashes) listed c.loop-place.place row c.requires.members lt c.row_at-row.ensures in
    let hashed = hash_of_row rows hashes row c.hash_of.result c.requires.hashes inside c.hash_of.ensures in
    let members = members_more (length hashes) rows.count _ (omega (arith, c.requires.hashes.within)) c.requires.members in
    alike _ _ _ _ c.loop-place.invariant.numbered rows.count members row lt is laws.keys_decide c.key_at-key.result c.key_at-key.ensures.value _ hashed (laws.hashes_alike c.args.rows.now)

pub loop-place-preserved : goal.loop-place-preserved
loop-place-preserved g c =
    let rows = g.R.KeyRows.rows c.args.rows.now in
    let row = c.row_at-row.result in
    let laws = g.met.R.KeyRows g.world.𝓛 g.world.𝓜 g.world.𝓡 ((λ s x. x), (λ x. x), (λ x. x), λ x. x) in
    let hashes = g.H.RowHashes.hashes c.args.hashes.now in
    let listed = g.M.Members.listed c.args.members.now in
    let lt : c.loop-place.place < length listed = omega (arith, c.loop-place-test.true, c.len-count.ensures) in
    let is : get_or listed c.loop-place.place 0 ≡ row = sym c.row_at-row.ensures in
    let inside = member_inside (length hashes) listed c.loop-place.place row c.requires.members lt c.row_at-row.ensures in
    let hashed = hash_of_row rows hashes row c.hash_of.result c.requires.hashes inside c.hash_of.ensures in
    let members = members_more (length hashes) rows.count _ (omega (arith, c.requires.hashes.within)) c.requires.members in
    let long = c.len.ensures in
    record {
      numbered = elim c.if-number-len.branch [
        | then-number-len+in_ok-push w ↦ rw (w.first-is, w.in_ok-push.ensures.items, c.push_reserved.ensures.items)
            (numbered_new _ _ _ _ c.loop-place.invariant.numbered rows.count members row lt is laws.keys_decide c.key_at-key.result c.key_at-key.ensures.value _ c.in_ok-number.number hashed c.number_of.new.self c.in_ok-number.ensures.found
            (w.if-number-len.true ∙ long ∙ c.loop-place.first.ok.0))
        | else-number-len w ↦ rw (w.first-is, c.push_reserved.ensures.items)
            (numbered_old _ _ _ _ c.loop-place.invariant.numbered rows.count members row lt is laws.keys_decide c.key_at-key.result c.key_at-key.ensures.value _ c.in_ok-number.number hashed c.number_of.new.self c.in_ok-number.ensures.found
            (λ same. w.if-number-len.false (same ∙ sym (long ∙ c.loop-place.first.ok.0))))
      ];
      room = omega arith;
      counted = omega arith;
    }

pub returns-clause-classes : goal.returns-clause-classes
returns-clause-classes g c =
    let all : length (g.M.Members.listed c.args.members.now) ≤ c.loop-place.place = omega arith in
    numbered_groups _ _ _ _ all c.loop-place.invariant.numbered

pub returns-clause-ascend : goal.returns-clause-ascend
returns-clause-ascend g c =
    let all : length (g.M.Members.listed c.args.members.now) ≤ c.loop-place.place = omega arith in
    numbered_ascend _ _ _ _ all c.loop-place.invariant.numbered c.requires.members.ascend

pub returns-clause-entries : goal.returns-clause-entries
returns-clause-entries g c = record { keys = c.loop-place.invariant.numbered.keys; hashes = c.loop-place.invariant.numbered.hashes }
