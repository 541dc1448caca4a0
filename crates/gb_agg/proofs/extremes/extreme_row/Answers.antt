use Rattle.std.proofs.Common.{◌≡◌, ◌∙◌, ◌<◌, ◌+◌, ℕ, List, [], ◌∷◌, ◌++◌, ap, arith, length, sym, take}
use Rattle.std.proofs.lemmas.List.{take_all}
use Rattle.gb_defs.proofs.FoldLemmas.{picked_more}
use Rattle.gb_defs.specs.Fold.{picked, valid}
use Rattle.gb_defs.specs.Slot.{Slot, slot_at}
use Rattle.gb_agg.specs.Extremes.{extreme_of}
use Rattle.gb_agg.proofs.ExtremeLemmas.{extreme_found, slot_more}
use Rattle.gb_agg.proofs.extremes.extreme_row.Goals as goal
use Rattle.gb_agg.proofs.extremes.extreme_row.Goals.{then-is_better, else-is_better}

pub loop-place-preserved : goal.loop-place-preserved
loop-place-preserved g c =
    let column = g.C.FoldOrder.column c.args.column.now in
    let slots = column.slots in
    let rows = g.R.GroupRows.rows c.args.rows.now in
    let at = c.loop-place.place in
    let row = c.row_at-row.result in
    let before = picked slots (take at rows) in
    let lt : at < length rows = omega (arith, c.loop-place-test.true, c.count-place-end.ensures) in
    let inside : row < length slots = rw c.row_at-row.ensures (c.requires.members.below at 0 lt) in
    let same : picked slots (take (at + 1) rows) ≡ before ++ slot_at slots row ∷ [] =
    picked_more slots rows at lt ∙ ap (λ (r : ℕ). before ++ slot_at slots r ∷ []) (sym c.row_at-row.ensures) in
    let more = slot_more c.args.greatest column.dtype before (slot_at slots row) (slot_at slots c.loop-place.best) c.loop-place.invariant.best
    ∙ ap (λ (ss : List Slot). extreme_of c.args.greatest column.dtype (valid ss)) (sym same) in
    elim c.if-is_better.branch [
      | then-is_better w ↦
          let yes = sym c.is_better.ensures ∙ w.if-is_better.true in
          record { inside = rw w.best-is inside; best = ap (slot_at slots) w.best-is ∙ (rw yes at more) }
      | else-is_better w ↦
          let no = sym c.is_better.ensures ∙ w.if-is_better.false in
          record { inside = rw w.best-is c.loop-place.invariant.inside; best = ap (slot_at slots) w.best-is ∙ (rw no at more) }
    ]

pub returns-clause-picked : goal.returns-clause-picked
returns-clause-picked g c =
    let column = g.C.FoldOrder.column c.args.column.now in
    let rows = g.R.GroupRows.rows c.args.rows.now in
    let all : take c.loop-place.place rows ≡ rows = take_all c.loop-place.place rows (omega (arith, c.loop-place-test.false, c.count-place-end.ensures)) in
    extreme_found c.args.greatest column rows (slot_at column.slots c.loop-place.best)
    (c.loop-place.invariant.best ∙ ap (λ (rs : List ℕ). extreme_of c.args.greatest column.dtype (valid (picked column.slots rs))) all)
