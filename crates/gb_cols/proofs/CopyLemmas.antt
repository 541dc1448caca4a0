-- Columns that are made of others' chunks: in one chunk, and a slice.
use Rattle.std.proofs.Common.{◌≡◌, ℕ, ◌-◌, ◌<◌, ◌≤◌, ◌^◌, ℤ, List, [], ◌∷◌, ◌++◌, length, map, refl, sym, ◌∙◌, ap, arith, subst, cond, nat_lt, max, Bool, true, false}
use Rattle.std.specs.List.{flat_map}
use Rattle.std.proofs.lemmas.List.{append-nil, length-append, length-map}
use Rattle.gb_defs.specs.Slot.{Slot}
use Rattle.gb_defs.specs.ColumnType.{ColumnType}
use Rattle.gb_defs.specs.Column.{ColumnValue, IsFlagTrue, SortedFlag, rechunked, sliced}
use Rattle.gb_defs.specs.Slices.{between, or_one, slice_end, slice_start}
use Rattle.gb_values.specs.Array.{filled_part}
use Rattle.gb_cols.specs.Column.{IsSmallColumn, column_of}
use Rattle.gb_cols.proofs.OrderLemmas.{flag_kept}
use Rattle.gb_cols.proofs.SliceLemmas.{length-between, parts, shown_lengths, shown_parts, shown_slots}

module _ (dtype : ColumnType) (name : List ℕ) (flag : SortedFlag) (chunks : List (List Slot)) where
  abbrev slots : List Slot
  slots = flat_map (λ chunk. chunk) chunks

  abbrev column : ColumnValue
  column = column_of dtype name flag chunks

  -- ---- in one chunk

  module _ (whole : List Slot) (is : whole ≡ slots) where
    pub view_whole : column_of dtype name flag (whole ∷ []) ≡ rechunked column
    view_whole = rw (append-nil whole, is) refl

    pub small_whole : IsSmallColumn column → (other : List ℕ) → IsSmallColumn (column_of dtype other flag (whole ∷ []))
    small_whole small other =
        let same : slots ≡ whole ++ [] = sym (append-nil whole ∙ is) in
        record {
          flag_true = subst (λ (ss : List Slot). IsFlagTrue flag dtype ss) same small.flag_true;
          small = subst (λ (ss : List Slot). length ss < 2 ^ 63) same small.small;
          few = omega arith;
        }

  -- ---- a slice

  part_few : (b : Bool) (part : List Slot) → length (cond b (part ∷ []) []) ≤ 1
  part_few true part = omega arith
  part_few false part = omega arith

  parts_few : (from to : ℕ) (cs : List (List Slot)) → length (parts from to cs) ≤ length cs
  parts_few from to [] = omega arith
  parts_few from to (c ∷ cs) =
      let part = between from to c in
      omega (arith, length-append (filled_part from to c) (parts (from - length c) (to - length c) cs), part_few (nat_lt 0 (length part)) part, parts_few (from - length c) (to - length c) cs)

  one_few : (cs : List (List Slot)) → length (or_one [] cs) ≤ max 1 (length cs)
  one_few [] = omega arith
  one_few (c ∷ cs) = omega arith

  module _ (offset : ℤ) (len : ℕ) (made : List (List Slot)) (is : made ≡ or_one [] (shown_parts chunks offset len)) where
    abbrev start : ℕ
    start = slice_start (length slots) offset

    abbrev end : ℕ
    end = slice_end (length slots) offset len

    made_slots : flat_map (λ chunk. chunk) made ≡ between start end slots
    made_slots = ap (flat_map (λ chunk. chunk)) is ∙ shown_slots chunks offset len

    pub view_sliced : column_of dtype name flag made ≡ sliced offset len column
    view_sliced =
        ap (λ ss. record (column_of dtype name flag made) { slots = ss }) made_slots
        ∙ ap (λ ns. record (sliced offset len column) { chunks = ns }) (ap (map length) is ∙ shown_lengths chunks offset len)

    made_few : length made ≤ max 1 (length chunks)
    made_few = omega (arith, ap length is, one_few (shown_parts chunks offset len), parts_few start end chunks)

    pub small_sliced : IsSmallColumn column → (other : List ℕ) → IsSmallColumn (column_of dtype other flag made)
    small_sliced small other =
        record {
          flag_true = subst (λ (ss : List Slot). IsFlagTrue flag dtype ss) (sym made_slots) (flag_kept (end - start) start slots flag dtype small.flag_true);
          small = subst (λ (ss : List Slot). length ss < 2 ^ 63) (sym made_slots) (omega (arith, length-between start end slots, small.small));
          few = omega (arith, length-map made (length {A = Slot}), length-map chunks (length {A = Slot}), made_few, small.few);
        }
