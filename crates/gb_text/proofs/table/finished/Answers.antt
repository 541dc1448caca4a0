use Rattle.std.proofs.Common.{◌≡◌, ◌∙◌, ◌∷◌, [], ◌++◌, All, List, length, ap, refl, append_assoc, append-nil, arith, Option, Some, None}
use Rattle.std.specs.List.{AllByRecursion, cons_option}
use Rattle.std.proofs.lemmas.List.Elements.{All-from_recursion, recursion_from_All}
use Rattle.gb_defs.specs.Column.{ColumnValue}
use Rattle.gb_text.specs.Builder.{read_in}
use Rattle.gb_text.specs.Building.{Building, IsWhole, read_if_kept}
use Rattle.gb_text.proofs.table.finished.Goals as goal

nothing_left : {X : Type 0} (xs : List X) → length xs ≡ 0 → xs ≡ []
nothing_left [] e = refl
nothing_left (x ∷ xs) e = absurd (omega arith)

first_whole : (b : Building) (bs : List Building) → All IsWhole (b ∷ bs) → IsWhole b × All IsWhole bs
first_whole b bs h =
    let parts : AllByRecursion IsWhole (b ∷ bs) = recursion_from_All IsWhole (b ∷ bs) h in
    (parts.0, All-from_recursion IsWhole bs parts.1)

-- one that may be there, in front of the others
cons_front : (front : List ColumnValue) (o : Option ColumnValue) (rest : List ColumnValue) → (front ++ cons_option o []) ++ rest ≡ front ++ cons_option o rest
cons_front front None rest = ap (λ xs. xs ++ rest) (append-nil front)
cons_front front (Some c) rest = append_assoc front (c ∷ []) rest

pub push_finished-requires : goal.push_finished-requires
push_finished-requires c =
    let steps = c.in-Some.ensures.steps.0 in
    (first_whole c.in-Some.builder _ (rw steps at c.loop-builder.invariant.1)).0

pub loop-builder-preserved : goal.loop-builder-preserved
loop-builder-preserved c =
    let at = c.loop-builder in
    let steps = c.in-Some.ensures.steps in
    let was = at.invariant.2 in
    let short = ap length steps.0 in
    let whole = (first_whole c.in-Some.builder _ (rw steps.0 at at.invariant.1)).1 in
    let all = rw steps.0 at at.invariant.0 in (
      rw c.in_ok-push_finished.ensures (cons_front (read_in at.columns.items) (read_if_kept c.in-Some.builder) _ ∙ all),
      whole,
      omega (arith, steps.1, was, short),
    )
