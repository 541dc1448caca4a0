use Rattle.std.proofs.Common.{◌∙◌, ◌≡◌, ◌<◌, ◌+◌, ◌++◌, ◌∷◌, [], ℕ, List, ap, arith, get_or, length, map, subst, sym, take}
use Rattle.std.proofs.lemmas.List.{get_or_default, length-map, length-take-le, map-append, take_more}
use Rattle.gb_defs.specs.Groups.{AreMembers, rows_of_pair}
use Rattle.gb_groups.specs.GroupsIndicator.{pair_of}
use Rattle.gb_groups.specs.GroupsType.{groups_of}
use Rattle.gb_agg.specs.Distinct.{AreNumbered, numbered}
use Rattle.gb_agg.proofs.ClassLemmas.{numbered_more}
use Rattle.gb_agg.proofs.ListLemmas.{list_at}
use Rattle.gb_agg.proofs.classes.number_groups.Goals as goal

pub number_group-requires : goal.number_group-requires
number_group-requires c =
    let pairs = (groups_of c.args.groups.now).pairs in
    let place = c.loop-place.place in
    let pair = pair_of c.get.result in
    let lt : place < length pairs = omega (arith, c.loop-place-test.true, c.len-place-end.ensures) in
    let members = list_at pairs place pair lt (c.get.ensures ∙ get_or_default pairs place (0, []) pair lt) (AreMembers (length c.args.numbers.now)) c.requires.rows in
    λ k d inside. omega (arith, members.below k d inside, c.loop-place.auto.numbers)

pub loop-place-preserved : goal.loop-place-preserved
loop-place-preserved c =
    let pairs = (groups_of c.args.groups.now).pairs in
    let place = c.loop-place.place in
    let before = map rows_of_pair (take place pairs) in
    let rows = rows_of_pair (pair_of c.get.result) in
    let lt : place < length pairs = omega (arith, c.loop-place-test.true, c.len-place-end.ensures) in
    let long : length before ≡ place = length-map (take place pairs) rows_of_pair ∙ length-take-le place pairs (omega (arith, lt)) in
    let more = numbered_more (length c.args.numbers.now) before rows c.loop-place.numbers c.loop-place.invariant in
    let lists : before ++ rows ∷ [] ≡ map rows_of_pair (take (place + 1) pairs) =
    ap (λ (p : ℕ × List ℕ). before ++ rows_of_pair p ∷ []) c.get.ensures ∙ sym (map-append rows_of_pair (take place pairs) (get_or pairs place (0, []) ∷ []))
    ∙ ap (map rows_of_pair) (sym (take_more pairs place (0, []) lt)) in
    let made : numbered (length before) rows c.loop-place.numbers ≡ c.number_group.new.numbers = ap (λ n. numbered n rows c.loop-place.numbers) long ∙ sym c.number_group.ensures in
    subst (λ (ls : List (List ℕ)). AreNumbered (length c.args.numbers.now) ls c.number_group.new.numbers) lists
    (subst (λ (ns : List ℕ). AreNumbered (length c.args.numbers.now) (before ++ rows ∷ []) ns) made more)
