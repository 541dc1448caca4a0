use Rattle.std.proofs.Common.{◌∙◌, ◌≡◌, ◌<◌, ◌+◌, ◌++◌, ◌∷◌, [], ℕ, List, ap, arith, get_or, length, map, sym, take}
use Rattle.std.proofs.lemmas.List.{get_or_default, map-append, take_more}
use Rattle.gb_defs.specs.Groups.{rows_of_pair}
use Rattle.gb_groups.specs.GroupsIndicator.{pair_of}
use Rattle.gb_agg.specs.Lists.{HaveNumbers}
use Rattle.gb_agg.proofs.ListLemmas.{list_at}
use Rattle.gb_agg.proofs.ListedLemmas.{listed_more}
use Rattle.gb_agg.proofs.lists.listed_rows.Goals as goal

pub push_group-requires : goal.push_group-requires
push_group-requires c =
    let pairs = c.args.groups.now.pairs in
    let place = c.loop-place.place in
    let pair = pair_of c.get.result in
    let lt : place < length pairs = omega (arith, c.loop-place-test.true, c.len-place-end.ensures) in
    list_at pairs place pair lt (c.get.ensures ∙ get_or_default pairs place (0, []) pair lt) HaveNumbers c.requires

pub loop-place-preserved : goal.loop-place-preserved
loop-place-preserved c =
    let pairs = c.args.groups.now.pairs in
    let place = c.loop-place.place in
    let before = map rows_of_pair (take place pairs) in
    let more = rows_of_pair (pair_of c.get.result) in
    let lt : place < length pairs = omega (arith, c.loop-place-test.true, c.len-place-end.ensures) in
    let lists : map rows_of_pair (take (place + 1) pairs) ≡ before ++ more ∷ [] =
    ap (map rows_of_pair) (take_more pairs place (0, []) lt) ∙ map-append rows_of_pair (take place pairs) (get_or pairs place (0, []) ∷ [])
    ∙ ap (λ (p : ℕ × List ℕ). before ++ rows_of_pair p ∷ []) (sym c.get.ensures) in
    let last = c.len-in-loop-place.ensures ∙ c.push_group.new.rows.ok.0 in
    listed_more before _ more c.loop-place.rows.items _ c.loop-place.ends.items _ c.loop-place.invariant lists c.in_ok-push_group.ensures
    (c.in_ok-push.ensures.items ∙ ap (λ n. c.loop-place.ends.items ++ n ∷ []) last)
