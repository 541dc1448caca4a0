use Rattle.std.proofs.Common.{◌≡◌, ◌∙◌, ◌∷◌, [], ◌++◌, List, length, map, ap, arith}
use Rattle.std.proofs.lemmas.List.Elements.{All-head, All-tail}
use Rattle.gb_text.specs.Building.{Building, IsWhole, in_one_chunk}
use Rattle.gb_text.proofs.table.grown.grown_columns.Goals as goal

one_more : (front : List Building) (new old : Building) (rest : List Building) → in_one_chunk new ≡ in_one_chunk old → map in_one_chunk (front ++ new ∷ []) ++ rest ≡ map in_one_chunk front ++ in_one_chunk old ∷ rest
one_more [] new old rest e = ap (λ b. b ∷ rest) e
one_more (b ∷ bs) new old rest e = ap (λ xs. in_one_chunk b ∷ xs) (one_more bs new old rest e)

pub new-requires : goal.new-requires
new-requires c = All-head IsWhole c.in-Some.column _ (rw c.in-Some.ensures.steps.0 at c.loop-column.invariant.1)

pub loop-column-preserved : goal.loop-column-preserved
loop-column-preserved c =
    let at = c.loop-column in
    let steps = c.in-Some.ensures.steps in
    let was = at.invariant.2 in
    let short = ap length steps.0 in
    let whole = All-tail IsWhole c.in-Some.column _ (rw steps.0 at at.invariant.1) in
    let all = rw steps.0 at at.invariant.0 in (
      rw c.in_ok-push.ensures.items (one_more at.all.items c.in_ok-grown.grown c.in-Some.column _ c.in_ok-grown.ensures ∙ all),
      whole,
      omega (arith, steps.1, was, short),
    )
