use Rattle.std.proofs.Common.{◌∙◌, ◌+◌, ◌≡◌, ◌<◌, ℕ, List, ap, arith, get_or, length, refl, set, subst, sym}
use Rattle.std.proofs.lemmas.List.{get_or-map}
use Rattle.gb_agg.specs.Distinct.{numbers_at}
use Rattle.gb_paths.proofs.MemberLemmas.{few_members}
use Rattle.gb_agg.proofs.DistinctLemmas.{AreSeen, seen_new, seen_none, seen_old}
use Rattle.gb_agg.proofs.distinct.count_different.Goals as goal
use Rattle.gb_agg.proofs.distinct.count_different.Goals.{then-seen-number, else-seen-number}

pub loop-place-init : goal.loop-place-init
loop-place-init g c = record {
  are = seen_none (numbers_at c.args.numbers.now (g.R.GroupRows.rows c.args.rows.now)) c.args.group c.args.seen.now c.requires.fresh;
  as_many = refl;
  few = omega arith;
}

pub loop-place-preserved : goal.loop-place-preserved
loop-place-preserved g c =
    let numbers = c.args.numbers.now in
    let rows = g.R.GroupRows.rows c.args.rows.now in
    let place = c.loop-place.place in
    let row = c.row_at.result in
    let lt : place < length rows = omega (arith, c.loop-place-test.true, c.count-place-end.ensures) in
    let is : get_or (numbers_at numbers rows) place 0 ≡ get_or numbers row 0 =
    get_or-map (λ row. get_or numbers row 0) rows place 0 0 lt ∙ ap (λ r. get_or numbers r 0) (sym c.row_at.ensures) in
    let known : get_or numbers row 0 < length c.loop-place.seen =
    let inside = c.requires.known row 0 (omega (arith, c.requires.rows.below place 0 lt, c.row_at.ensures)) in
    omega (arith, inside, c.loop-place.auto.seen) in
    let are = c.loop-place.invariant.are in
    elim c.if-seen-number.branch [
      | then-seen-number w ↦
          let more = seen_new (numbers_at numbers rows) c.args.group place c.loop-place.count (get_or numbers row 0) c.loop-place.seen is are known w.if-seen-number.true in
          record {
            are = subst (λ (s : List ℕ). AreSeen (numbers_at numbers rows) c.args.group (place + 1) c.if-seen-number.count s) (sym w.seen-is)
                (subst (λ (n : ℕ). AreSeen (numbers_at numbers rows) c.args.group (place + 1) n (set c.loop-place.seen (get_or numbers row 0) c.args.group)) (sym w.count-is) more);
            as_many = c.if-seen-number.auto.seen ∙ c.loop-place.invariant.as_many;
            few = omega (arith, w.count-is, c.loop-place.invariant.few);
          }
      | else-seen-number w ↦
          let more = seen_old (numbers_at numbers rows) c.args.group place c.loop-place.count (get_or numbers row 0) c.loop-place.seen is are known w.if-seen-number.false in
          record {
            are = subst (λ (s : List ℕ). AreSeen (numbers_at numbers rows) c.args.group (place + 1) c.if-seen-number.count s) (sym w.seen-is)
                (subst (λ (n : ℕ). AreSeen (numbers_at numbers rows) c.args.group (place + 1) n c.loop-place.seen) (sym w.count-is) more);
            as_many = c.if-seen-number.auto.seen ∙ c.loop-place.invariant.as_many;
            few = omega (arith, w.count-is, c.loop-place.invariant.few);
          }
    ]

pub overflow_add-count : goal.overflow_add-count
overflow_add-count g c =
    let few = few_members (length c.args.numbers.now) (g.R.GroupRows.rows c.args.rows.now) c.requires.rows in
    omega (arith, c.loop-place.invariant.few, c.loop-place-test.true, c.count-place-end.ensures, few, c.requires.short)
