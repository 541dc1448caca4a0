use Rattle.std.proofs.Common.{◌≡◌, ◌+◌, ◌<◌, ◌≤◌, ◌∙◌, ap, sym, cond, not, ◌++◌, ◌∷◌, [], ℕ, zero, suc, List, false, ◌||◌, ◌==◌, take, length, get_or, refl, arith}
use Rattle.std.specs.List.{list_any}
use Rattle.std.specs.Cmp.{both_ways}
use Rattle.std.proofs.lemmas.Bool.{eqb-true, eq-eqb}
use Rattle.std.proofs.lemmas.List.{append-nil, take_more}
use Rattle.std.proofs.lemmas.List.Folds.{list_any-append}
use Rattle.gb_defs.specs.Classes.{firsts, rows_below}
use Rattle.gb_defs.specs.Slow.{same_key}
use Rattle.gb_defs.proofs.ClassesLemmas.{firsts_push, rows_below_more, rows_below_all}
use Rattle.gb_defs.proofs.slow.firsts.Goals as goal
use Rattle.gb_defs.proofs.slow.firsts.Goals.{then-not-contains+in_ok-push, else-not-contains}

eqb-swap : (a b : ℕ) → (a == b) ≡ (b == a)
eqb-swap a b = both_ways (a == b) (b == a) (λ e. eq-eqb b a (sym (eqb-true a b e))) (λ e. eq-eqb a b (sym (eqb-true b a e)))

-- some earlier key is the row's where it is among the earlier keys
any_earlier : (keys : List ℕ) (k n : ℕ) → n ≤ length keys → list_any (λ j. k == get_or keys j 0) (rows_below n) ≡ list_any (λ y. y == k) (take n keys)
any_earlier keys k zero le = refl
any_earlier keys k (suc n) le =
    let lt : n < length keys = omega arith in
    let more : suc n ≡ n + 1 = omega arith in
    ap (λ m. list_any (λ j. k == get_or keys j 0) (rows_below m)) more ∙ ap (list_any (λ j. k == get_or keys j 0)) (rows_below_more n)
    ∙ list_any-append (λ j. k == get_or keys j 0) (rows_below n) (n ∷ [])
    ∙ ap (λ b. b || ((k == get_or keys n 0) || false)) (any_earlier keys k n (omega arith))
    ∙ ap (λ b. list_any (λ y. y == k) (take n keys) || (b || false)) (eqb-swap k (get_or keys n 0))
    ∙ sym (list_any-append (λ y. y == k) (take n keys) (get_or keys n 0 ∷ [])) ∙ ap (list_any (λ y. y == k)) (sym (take_more keys n 0 lt))
    ∙ ap (λ m. list_any (λ y. y == k) (take m keys)) (sym more)

firsts_next : (keys : List ℕ) (row : ℕ) → row < length keys → firsts (same_key keys) (rows_below (row + 1))
    ≡ firsts (same_key keys) (rows_below row) ++ cond (not (list_any (λ y. y == get_or keys row 0) (take row keys))) (row ∷ []) []
firsts_next keys row lt =
    ap (firsts (same_key keys)) (rows_below_more row) ∙ firsts_push (same_key keys) (rows_below row) row (rows_below_all row)
    ∙ ap (λ b. firsts (same_key keys) (rows_below row) ++ cond (not b) (row ∷ []) []) (any_earlier keys (get_or keys row 0) row (omega arith))

pub loop-row-init : goal.loop-row-init
unfolding firsts
loop-row-init c = c.new-rows.ensures.items

pub loop-row-preserved : goal.loop-row-preserved
loop-row-preserved c =
    let keys = c.args.keys.now in
    let row = c.loop-row.row in
    let found = c.contains.ensures.value in
    elim c.if-not-contains.branch [
      | then-not-contains+in_ok-push w ↦
          rw (w.rows-is, w.in_ok-push.ensures.items, firsts_next keys row c.loop-row-test.true, ← found, w.if-not-contains.true) (ap (λ rows. rows ++ row ∷ []) c.loop-row.invariant)
      | else-not-contains w ↦
          rw (w.rows-is, firsts_next keys row c.loop-row-test.true, ← found, w.if-not-contains.false, append-nil) c.loop-row.invariant
    ]
