-- Aggregates over parts of the groups, and the parts behind one another.
use Rattle.std.proofs.Common.{◌≡◌, ℕ, ◌+◌, ◌<◌, ◌≤◌, suc, List, [], ◌∷◌, ◌++◌, All, None, length, map, take, drop, get_or, refl, sym, ap, subst, ◌∙◌, arith, append-nil, append_assoc}
use Rattle.std.proofs.lemmas.List.{drop-map, length-append, length-drop, length-map, length-take-le, take-map}
use Rattle.std.proofs.lemmas.List.Elements.{All-drop, All-take}
use Rattle.std.proofs.lemmas.Simd.{map-map}
use Rattle.gb_base.specs.PlSmallStr.{IsNoMemory}
use Rattle.gb_cols.specs.Column.{appended}
use Rattle.gb_base.specs.PolarsError.{Explains}
use Rattle.gb_base.specs.declared.error.PolarsError.{PolarsError}
use Rattle.gb_base.specs.declared.error.PolarsError.TheVariants.{ComputeError, ShapeMismatch, TooManyRows, ColumnNotFound, InvalidOperation, Duplicate, SchemaMismatch, NoMemory}
use Rattle.gb_defs.specs.Column.{ColumnValue, Content, content}
use Rattle.gb_defs.specs.Flat.{range_at}
use Rattle.gb_defs.specs.Fold.{fold_of}
use Rattle.gb_defs.specs.Groups.{AreMembers, Grouping, lists_in, rows_of_pair}
use Rattle.gb_defs.specs.Slot.{Slot}
use Rattle.gb_flat.proofs.ShareLemmas.{shares_joined}
use Rattle.gb_series.specs.Series.{value_of}
use Rattle.gb_series.specs.declared.series.Series.{Series}
use Rattle.gb_agg.specs.Folds.{AreGroupsOf, IsAggregateOf, folded, joined_content, slots_of_parts}
use Rattle.gb_groups.specs.Views.{part_from}
use Rattle.gb_agg.specs.Method.{method_of}
use Rattle.gb_agg.specs.declared.method.GroupByMethod.{GroupByMethod}

-- the lists of a part are a part of the lists
lists_part : (g : Grouping) (start count : ℕ) → lists_in (part_from g start count) ≡ take count (drop start (lists_in g))
lists_part g start count = sym (take-map rows_of_pair count (drop start g.pairs)) ∙ ap (take count) (sym (drop-map rows_of_pair start g.pairs))

pub part_fits : (c : ColumnValue) (g : Grouping) (start count : ℕ) → start + count ≤ length g.pairs → AreGroupsOf c g → AreGroupsOf c (part_from g start count)
part_fits c g start count inside groups = record {
  rows = subst (All (AreMembers (length c.slots))) (sym (lists_part g start count))
      (All-take (AreMembers (length c.slots)) count (drop start (lists_in g)) (All-drop (AreMembers (length c.slots)) start (lists_in g) groups.rows));
  few = omega (arith, groups.few, length-take-le count (drop start g.pairs) (omega (arith, inside, length-drop start g.pairs)));
}

-- an error that no cause explains is want of memory
pub no_cause : (e : PolarsError) → Explains e None → IsNoMemory e
no_cause ComputeError h = cc
no_cause ShapeMismatch h = cc
no_cause (TooManyRows rows) h = cc
no_cause (ColumnNotFound name) h = cc
no_cause (InvalidOperation operation name) h = cc
no_cause (Duplicate name) h = cc
no_cause (SchemaMismatch name) h = cc
no_cause NoMemory h = refl

-- ---- the parts behind one another

module _ (method : GroupByMethod) (c : ColumnValue) (g : Grouping) (m : ℕ) (parts : List Series) (some : 1 ≤ m) (long : length parts ≡ m) (len : ℕ) (all : len ≡ length g.pairs)
    (each : (k : ℕ) (d : Series) → k < m → IsAggregateOf method c (part_from g (range_at len m k).0 (range_at len m k).1) (get_or parts k d)) where
  abbrev fold_pair : ℕ × List ℕ → Slot
  fold_pair pair = fold_of (method_of method) c.dtype c.slots (rows_of_pair pair)

  pub parts_slots : slots_of_parts parts ≡ map fold_pair g.pairs
  parts_slots = shares_joined (λ s. (value_of s).slots) fold_pair g.pairs m parts some long (λ k d lt.
      let here = each k d lt in
      let range = range_at len m k in
      let same : range ≡ range_at (length g.pairs) m k = ap (λ n. range_at n m k) all in
      ap (λ (x : Content). x.slots) here ∙ map-map (fold_of (method_of method) c.dtype c.slots) rows_of_pair (take range.1 (drop range.0 g.pairs))
      ∙ ap (λ (r : ℕ × ℕ). map fold_pair (take r.1 (drop r.0 g.pairs))) same)

  pub parts_few : length (slots_of_parts parts) ≡ length g.pairs
  parts_few = ap length parts_slots ∙ length-map g.pairs fold_pair

  module _ (none : Series) (empty : IsAggregateOf method c (part_from g 0 0) none) where
    pub none_few : length (value_of none).slots ≡ 0
    none_few = ap (λ (x : Content). length x.slots) empty

    pub parts_alike : All (λ s. (value_of s).dtype ≡ (value_of none).dtype) parts
    parts_alike k d lt = ap (λ (x : Content). x.dtype) (each k d (omega (arith, lt, long))) ∙ sym (ap (λ (x : Content). x.dtype) empty)

    pub parts_joined : joined_content (value_of none) parts ≡ content (folded (method_of method) c (lists_in g))
    parts_joined =
        let name = ap (λ (x : Content). x.name) empty in
        let dtype = ap (λ (x : Content). x.dtype) empty in
        let slots = ap (λ (x : Content). x.slots) empty in
        let whole : (value_of none).slots ++ slots_of_parts parts ≡ map (fold_of (method_of method) c.dtype c.slots) (lists_in g) =
        ap (λ ss. ss ++ slots_of_parts parts) slots ∙ parts_slots ∙ sym (map-map (fold_of (method_of method) c.dtype c.slots) rows_of_pair g.pairs) in
        let all = folded (method_of method) c (lists_in g) in
        ap (λ n. record { name = n; dtype = (value_of none).dtype; slots = (value_of none).slots ++ slots_of_parts parts }) name
        ∙ ap (λ t. record { name = all.name; dtype = t; slots = (value_of none).slots ++ slots_of_parts parts }) dtype
        ∙ ap (λ ss. record { name = all.name; dtype = all.dtype; slots = ss }) whole

-- one part more behind
module _ (all : ColumnValue) (other : Series) (rest : List Series) where
  pub joined_more : (after : ColumnValue) → after ≡ appended all (value_of other) → joined_content after rest ≡ joined_content all (other ∷ rest)
  joined_more after e =
      ap (λ c. joined_content c rest) e ∙ ap (λ ss. record { name = all.name; dtype = all.dtype; slots = ss }) (append_assoc all.slots (value_of other).slots (slots_of_parts rest))

  pub few_more : (after : ColumnValue) → after ≡ appended all (value_of other) → length after.slots + length (slots_of_parts rest) ≡ length all.slots + length (slots_of_parts (other ∷ rest))
  few_more after e =
      let one = length-append all.slots (value_of other).slots in
      let more = length-append (value_of other).slots (slots_of_parts rest) in
      omega (arith, ap (λ c. length c.slots) e, one, more)

  pub typed_more : (after : ColumnValue) → after ≡ appended all (value_of other) → All (λ s. (value_of s).dtype ≡ all.dtype) (other ∷ rest) → All (λ s. (value_of s).dtype ≡ after.dtype) rest
  typed_more after e typed k d lt = typed (suc k) d (omega (arith, lt)) ∙ sym (ap (λ c. c.dtype) e)

pub none_joined : (c : ColumnValue) → content c ≡ joined_content c []
none_joined c = ap (λ ss. record { name = c.name; dtype = c.dtype; slots = ss }) (sym (append-nil c.slots))
