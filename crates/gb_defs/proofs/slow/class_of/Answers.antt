use Rattle.std.proofs.Common.{◌≡◌, ◌+◌, ◌∙◌, ap, cond, ◌++◌, ◌∷◌, [], ℕ, List, eq-eqb, true, false}
use Rattle.std.proofs.lemmas.List.{append-nil}
use Rattle.std.proofs.lemmas.Bool.{ne_eqb}
use Rattle.gb_defs.specs.Classes.{class, rows_below}
use Rattle.gb_defs.specs.Slow.{same_key}
use Rattle.gb_defs.proofs.ClassesLemmas.{class_push, rows_below_more}
use Rattle.gb_defs.proofs.slow.class_of.Goals as goal
use Rattle.gb_defs.proofs.slow.class_of.Goals.{then-keys-of+in_ok-push, else-keys-of}

class_next : (keys : List ℕ) (row of : ℕ) → class (same_key keys) (rows_below (row + 1)) of ≡ class (same_key keys) (rows_below row) of ++ cond (same_key keys of row) (row ∷ []) []
class_next keys row of = ap (λ rows. class (same_key keys) rows of) (rows_below_more row) ∙ class_push (same_key keys) (rows_below row) row of

pub loop-row-init : goal.loop-row-init
unfolding class
loop-row-init c = c.new-rows.ensures.items

pub loop-row-preserved : goal.loop-row-preserved
loop-row-preserved c =
    let keys = c.args.keys.now in
    let row = c.loop-row.row in
    let of = c.args.of in
    elim c.if-keys-of.branch [
      | then-keys-of+in_ok-push w ↦
          let same : same_key keys of row ≡ true = eq-eqb _ _ w.if-keys-of.true in
          rw (w.rows-is, w.in_ok-push.ensures.items, class_next keys row of, same) (ap (λ rows. rows ++ row ∷ []) c.loop-row.invariant)
      | else-keys-of w ↦
          let other : same_key keys of row ≡ false = ne_eqb _ _ w.if-keys-of.false in
          rw (w.rows-is, class_next keys row of, other, append-nil) c.loop-row.invariant
    ]
