use Rattle.std.proofs.Common.{◌∙◌, ◌<◌, ◌+◌, ℕ, List, [], ◌∷◌, ◌++◌, ap, arith, get_or, length, map, subst, sym, take}
use Rattle.std.proofs.lemmas.List.{get_or_default, take_more}
use Rattle.gb_defs.specs.Groups.{AreMembers, rows_of_pair}
use Rattle.gb_groups.specs.GroupsIndicator.{pair_of}
use Rattle.gb_agg.specs.Picks.{ArePicks}
use Rattle.gb_agg.proofs.ListLemmas.{list_at}
use Rattle.gb_agg.proofs.PickLemmas.{picks_more}
use Rattle.gb_agg.proofs.row_pick.pick_groups.Goals as goal

pub pick_group-requires-clause-members : goal.pick_group-requires-clause-members
pick_group-requires-clause-members g c =
    let pairs = c.args.groups.now.pairs in
    let place = c.loop-place.place in
    let pair = pair_of c.get.result in
    let lt : place < length pairs = omega (arith, c.loop-place-test.true, c.len-place-end.ensures) in
    list_at pairs place pair lt (c.get.ensures ∙ get_or_default pairs place (0, []) pair lt) (AreMembers (length (g.P.RowPick.column c.args.pick.now).slots)) c.requires.rows

pub loop-place-preserved : goal.loop-place-preserved
loop-place-preserved g c =
    let column = g.P.RowPick.column c.args.pick.now in
    let fold = g.P.RowPick.fold c.args.pick.now in
    let pairs = c.args.groups.now.pairs in
    let place = c.loop-place.place in
    let pair = get_or pairs place (0, []) in
    let rows = c.loop-place.rows.items in
    let row = c.pick_group.result in
    let lt : place < length pairs = omega (arith, c.loop-place-test.true, c.len-place-end.ensures) in
    let picked = c.pick_group.ensures.picked ∙ ap (λ (p : ℕ × List ℕ). fold (rows_of_pair p)) c.get.ensures in
    let more = picks_more column fold (take place pairs) pair rows row c.loop-place.invariant c.pick_group.ensures.inside picked in
    subst (λ (rs : List ℕ). ArePicks column fold (map rows_of_pair (take (place + 1) pairs)) rs) (sym c.in_ok-push.ensures.items)
    (subst (λ (ps : List (ℕ × List ℕ)). ArePicks column fold (map rows_of_pair ps) (rows ++ row ∷ [])) (sym (take_more pairs place (0, []) lt)) more)
