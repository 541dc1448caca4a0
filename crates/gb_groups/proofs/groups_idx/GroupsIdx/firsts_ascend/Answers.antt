use Rattle.std.proofs.Common.{◌+◌, ◌<◌, ℕ, Bool, true, false, List, length, get_or, IsTrue, ◌↔◌, arith, refl}
use Rattle.std.specs.Bool.{MatchBool}
use Rattle.std.specs.List.Sorted.{IsNonDecreasing}
use Rattle.std.proofs.lemmas.List.Sorted.{non_decreasing_from_is_sorted}
use Rattle.gb_groups.proofs.groups_idx.GroupsIdx.firsts_ascend.Goals as goal

told : (xs : List ℕ) (r : Bool) → MatchBool r (IsNonDecreasing xs) ((k : ℕ) × (k + 1 < length xs) × ((d : ℕ) → get_or xs (k + 1) d < get_or xs k d)) → IsTrue r ↔ IsNonDecreasing xs
told xs true h = (λ _. h, λ _. refl)
told xs false h = (λ t. cc, λ ascend. let later = ascend h.0 (h.0 + 1) 0 (omega arith) h.1 in absurd (omega (arith, later, h.2 0)))

pub returns : goal.returns
returns c = told _ _ (non_decreasing_from_is_sorted _ _ c.is_sorted.ensures.cases)
