-- Slots in order: a part of them is in the same order.
use Rattle.std.proofs.Common.{◌≡◌, ℕ, ◌+◌, ◌<◌, List, length, take, drop, sym, ◌∙◌, ap, arith}
use Rattle.std.proofs.lemmas.List.{get_or-drop, get_or-take, length-drop, length-take}
use Rattle.gb_defs.specs.Slot.{Slot, is_nil, slot_at}
use Rattle.gb_defs.specs.ColumnType.{ColumnType}
use Rattle.gb_defs.specs.Order.{ByCode, below}
use Rattle.gb_defs.specs.Column.{Ascending, Descending, HasNullsAtOneEnd, IsAscending, IsDescending, IsFlagTrue, NotSorted, SortedFlag}

-- the part of so many slots from a place on
module _ (n k : ℕ) (slots : List Slot) where
  abbrev part : List Slot
  part = take n (drop k slots)

  part_at : (i : ℕ) → i < length part → slot_at part i ≡ slot_at slots (k + i)
  part_at i lt =
      let inside : i < n = omega (arith, lt, length-take n (drop k slots)) in get_or-take n (drop k slots) i _ inside ∙ get_or-drop k slots i _

  part_inside : (i : ℕ) → i < length part → k + i < length slots
  part_inside i lt = omega (arith, lt, length-take n (drop k slots), length-drop k slots)

  nulls_kept : HasNullsAtOneEnd slots → HasNullsAtOneEnd part
  nulls_kept nulls = record {
    together =
        λ i j l ij jl lt same.
        let at_i = part_at i (omega arith) in
        let at_j = part_at j (omega arith) in
        let at_l = part_at l lt in
        ap is_nil at_j
        ∙ nulls.together (k + i) (k + j) (k + l) (omega arith) (omega arith) (part_inside l lt) (ap is_nil (sym at_i) ∙ same ∙ ap is_nil at_l)
        ∙ ap is_nil (sym at_i);
  }

  ascending_kept : (t : ColumnType) → IsAscending t slots → IsAscending t part
  ascending_kept t ascends = record {
    ordered =
        λ i j ij lt vi vj.
        let at_i = part_at i (omega arith) in
        let at_j = part_at j lt in
        ap (λ s. below ByCode t s (slot_at part i)) at_j ∙ ap (λ s. below ByCode t (slot_at slots (k + j)) s) at_i
        ∙ ascends.ordered (k + i) (k + j) (omega arith) (part_inside j lt) (ap is_nil (sym at_i) ∙ vi) (ap is_nil (sym at_j) ∙ vj);
    nulls = nulls_kept ascends.nulls;
  }

  descending_kept : (t : ColumnType) → IsDescending t slots → IsDescending t part
  descending_kept t descends = record {
    ordered =
        λ i j ij lt vi vj.
        let at_i = part_at i (omega arith) in
        let at_j = part_at j lt in
        ap (λ s. below ByCode t s (slot_at part j)) at_i ∙ ap (λ s. below ByCode t (slot_at slots (k + i)) s) at_j
        ∙ descends.ordered (k + i) (k + j) (omega arith) (part_inside j lt) (ap is_nil (sym at_i) ∙ vi) (ap is_nil (sym at_j) ∙ vj);
    nulls = nulls_kept descends.nulls;
  }

  -- what a flag states of slots, it states of a part of them
  pub flag_kept : (flag : SortedFlag) (t : ColumnType) → IsFlagTrue flag t slots → IsFlagTrue flag t part
  flag_kept Ascending t holds = (holds.0, ascending_kept t holds.1)
  flag_kept Descending t holds = (holds.0, descending_kept t holds.1)
  flag_kept NotSorted t holds = tt
