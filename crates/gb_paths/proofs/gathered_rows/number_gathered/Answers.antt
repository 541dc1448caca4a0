use Rattle.std.proofs.Common.{◌∙◌, List, ℕ, ap, arith, get_or, length, map, subst, sym, true}
use Rattle.std.specs.List.Sorted.{IsNonDecreasing}
use Rattle.std.proofs.lemmas.List.{length-map}
use Rattle.gb_defs.specs.Classes.{rows_below}
use Rattle.gb_defs.specs.Rows.{same_slot_at}
use Rattle.gb_paths.specs.Gathered.{gathered}
use Rattle.gb_paths.specs.Numbering.{AreNumbersAmong, AreNumbersOf}
use Rattle.gb_paths.proofs.GatherLemmas.{places_low, rows_numbered}
use Rattle.gb_paths.proofs.MemberLemmas.{few_members}
use Rattle.gb_paths.proofs.PlaceLemmas.{rows_ascend}
use Rattle.gb_paths.proofs.gathered_rows.number_gathered.Goals as goal

pub number_all-requires-clause-few : goal.number_all-requires-clause-few
number_all-requires-clause-few g c =
    let few = few_members _ _ c.requires.members in
    rw c.in_ok-some.ensures.members (omega (arith, few, c.requires.hashes.within, c.requires.few))

pub rows_at-requires : goal.rows_at-requires
rows_at-requires g c κs within =
    let rows = g.R.KeyRows.rows c.args.rows.now in
    let members = c.args.members.now in
    let places = c.in_ok-places.places in
    let are : AreNumbersAmong (gathered rows members) (rows_below (length members)) places = rw (c.in_ok-some.ensures.rows, c.in_ok-some.ensures.members) at c.in_ok-places.ensures.ok in
    rw c.deref.ensures.value (places_low rows members places are κs within)

pub invariant_of-result-clause-known : goal.invariant_of-result-clause-known
invariant_of-result-clause-known g c =
    let places = c.in_ok-places.places in
    let as_many = ap length c.in_ok-first.ensures ∙ length-map c.deref.result.now (λ place. get_or c.args.members.now place 0) ∙ ap length c.deref.ensures.value in
    λ k d lt. omega (arith, places.known k d lt, as_many)

pub invariant_of-result-clause-ascend : goal.invariant_of-result-clause-ascend
invariant_of-result-clause-ascend g c =
    let rows = g.R.KeyRows.rows c.args.rows.now in
    let members = c.args.members.now in
    let places = c.in_ok-places.places in
    let are : AreNumbersAmong (gathered rows members) (rows_below (length members)) places = rw (c.in_ok-some.ensures.rows, c.in_ok-some.ensures.members) at c.in_ok-places.ensures.ok in
    let first = c.in_ok-first.ensures ∙ ap (map (λ place. get_or members place 0)) c.deref.ensures.value in
    subst IsNonDecreasing (sym first) (rows_ascend (λ i j. true) members c.requires.members.ascend places.first.items places.ascend (places_low rows members places are))

pub returns-clause-ok : goal.returns-clause-ok
returns-clause-ok g c =
    let rows = g.R.KeyRows.rows c.args.rows.now in
    let members = c.args.members.now in
    let places = c.in_ok-places.places in
    let are : AreNumbersAmong (gathered rows members) (rows_below (length members)) places = rw (c.in_ok-some.ensures.rows, c.in_ok-some.ensures.members) at c.in_ok-places.ensures.ok in
    let first = c.in_ok-first.ensures ∙ ap (map (λ place. get_or members place 0)) c.deref.ensures.value in
    subst (λ (fs : List ℕ). AreNumbersOf (same_slot_at rows.slot) members fs places.of_rows.items) (sym first) (rows_numbered rows members places are c.requires.members.ascend)
