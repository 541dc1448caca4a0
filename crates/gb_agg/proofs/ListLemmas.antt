-- Row lists of groups, one at a time.
use Rattle.std.proofs.Common.{◌≡◌, ◌∙◌, ℕ, ◌<◌, List, [], All, length, map, get_or, ap, arith, subst, sym}
use Rattle.std.proofs.lemmas.List.{get_or-map, length-map}
use Rattle.gb_defs.specs.Groups.{rows_of_pair}

module _ (pairs : List (ℕ × List ℕ)) (i : ℕ) (pair : ℕ × List ℕ) (lt : i < length pairs) (read : pair ≡ get_or pairs i pair) where
  -- what holds of each list, at the loop's group
  pub list_at : (P : List ℕ → Type 0) → All P (map rows_of_pair pairs) → P (rows_of_pair pair)
  list_at P all =
      subst P (get_or-map rows_of_pair pairs i pair [] lt ∙ ap rows_of_pair (sym read))
      (all i [] (omega (arith, lt, length-map pairs rows_of_pair)))
