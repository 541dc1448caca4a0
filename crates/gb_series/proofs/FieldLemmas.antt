-- Fields of a column of structs that change: they keep their first rows, or get rows behind them. No column but plain values stands in it.
use Rattle.std.proofs.Common.{◌≡◌, ℕ, zero, suc, ◌+◌, ◌-◌, ◌<◌, ◌≤◌, ℤ, pos, ◌+ℤ◌, Bool, false, List, [], ◌∷◌, ◌++◌, length, map, take, drop, get_or, set, refl, sym, ◌∙◌, ap, arith, subst}
use Rattle.std.specs.List.{All, AllByRecursion}
use Rattle.std.proofs.lemmas.List.{append_assoc, get_or-append-add, get_or-map, map-append, map-set, take_all, take_more, get_or-take, get_or_append_left, length-append, length-drop, length-map, length-take}
use Rattle.std.proofs.lemmas.List.Elements.{All-append, All-from_recursion, All-get_or, recursion_from_All}
use Rattle.std.proofs.Math.Seq.{drop-nil, take-append_seam}
use Rattle.gb_base.specs.DataType.{fields_of}
use Rattle.gb_defs.specs.Slot.{Slot, Nil, items_of, slot_at}
use Rattle.gb_defs.specs.Slices.{shown}
use Rattle.gb_defs.specs.ColumnType.{ColumnType, StructOf, part_type}
use Rattle.gb_defs.specs.Column.{ColumnValue, Frame, sliced}
use Rattle.gb_cols.specs.Column.{appended, pushed}
use Rattle.gb_series.specs.Depth.{depth, fields_depth}
use Rattle.gb_series.specs.Rows.{rows_of}
use Rattle.gb_series.specs.Structs.{AreJoined, IsJoined, IsStruct, KeepAll, KeepsRows, across, field_part, rows_across, struct_column, struct_type}
use Rattle.gb_defs.specs.CellText.{part_text, parts_text}
use Rattle.gb_series.specs.Text.{comma_behind}
use Rattle.gb_series.proofs.TextLemmas.{parts_more}
use Rattle.gb_series.proofs.RowLemmas.{rows_append}
use Rattle.gb_series.proofs.StructLemmas.{across_count, distinct_alike, field_type_at, is_alike, rows_split, same_rows, shown_part, struct_alike}

-- ---- fields that keep their first rows

part_type_of : (f g : ColumnValue) → field_part g ≡ field_part f → g.dtype ≡ f.dtype
part_type_of f g e = ap (λ p. p.1) e

pub keep_same : (n : ℕ) (fs : Frame) → KeepAll n fs fs
keep_same n [] = tt
keep_same n (f ∷ fs) = (record { part = refl; rows = refl }, keep_same n fs)

pub kept_parts : (n : ℕ) (fs gs : Frame) → KeepAll n fs gs → map field_part gs ≡ map field_part fs
kept_parts n [] [] keep = refl
kept_parts n [] (g ∷ gs) keep = absurd keep
kept_parts n (f ∷ fs) [] keep = absurd keep
kept_parts n (f ∷ fs) (g ∷ gs) keep = ap (λ p. p ∷ map field_part gs) keep.0.part ∙ ap (λ ps. field_part f ∷ ps) (kept_parts n fs gs keep.1)

kept_across : (n : ℕ) (fs gs : Frame) (i : ℕ) → i < n → KeepAll n fs gs → across gs i ≡ across fs i
kept_across n [] [] i lt keep = refl
kept_across n [] (g ∷ gs) i lt keep = absurd keep
kept_across n (f ∷ fs) [] i lt keep = absurd keep
kept_across n (f ∷ fs) (g ∷ gs) i lt keep =
    let same : slot_at g.slots i ≡ slot_at f.slots i = sym (get_or-take n g.slots i Nil lt) ∙ ap (λ ss. slot_at ss i) keep.0.rows ∙ get_or-take n f.slots i Nil lt in
    ap (λ s. s ∷ across gs i) same ∙ ap (λ ss. slot_at f.slots i ∷ ss) (kept_across n fs gs i lt keep.1)

pub kept_rows : (n : ℕ) (fs gs : Frame) → KeepAll n fs gs → rows_across gs 0 n ≡ rows_across fs 0 n
kept_rows n fs gs keep = same_rows gs fs 0 0 n (λ i lt. kept_across n fs gs (0 + i) (omega (arith, lt)) keep)

kept_long_each : (n : ℕ) (fs gs : Frame) → KeepAll n fs gs → AllByRecursion (λ f. n ≤ length f.slots) fs → AllByRecursion (λ f. n ≤ length f.slots) gs
kept_long_each n [] [] keep all = tt
kept_long_each n [] (g ∷ gs) keep all = absurd keep
kept_long_each n (f ∷ fs) [] keep all = absurd keep
kept_long_each n (f ∷ fs) (g ∷ gs) keep all =
    (omega (arith, ap (λ (ss : List Slot). length ss) keep.0.rows, length-take n g.slots, length-take n f.slots, all.0), kept_long_each n fs gs keep.1 all.1)

pub kept_long : (n : ℕ) (fs gs : Frame) → KeepAll n fs gs → All (λ f. n ≤ length f.slots) fs → All (λ f. n ≤ length f.slots) gs
kept_long n fs gs keep all =
    All-from_recursion (λ f. n ≤ length f.slots) gs (kept_long_each n fs gs keep (recursion_from_All (λ f. n ≤ length f.slots) fs all))

module _ (rows : ColumnValue) (present : List Bool) (fields : Frame) (is : IsStruct rows present fields) (changed : Frame) (keep : KeepAll (length present) fields changed) where
  abbrev before : ColumnValue
  before = struct_column rows present fields

  abbrev count : ℕ
  count = length present

  -- a call that was refused half way
  pub kept_view : struct_column rows present changed ≡ before
  kept_view =
      ap (λ ps. record before { dtype = StructOf (fields_of ps); slots = rows_of present (rows_across changed 0 count) }) (kept_parts count fields changed keep)
      ∙ ap (λ xs. record before { slots = rows_of present xs }) (kept_rows count fields changed keep)

  pub kept_struct : IsStruct rows present changed
  kept_struct = record {
    flags = is.flags;
    long = kept_long count fields changed keep is.long;
    distinct = distinct_alike fields changed (kept_parts count fields changed keep) is.distinct;
  }

  -- one null more
  module _ (long : All (λ f. count + 1 ≤ length f.slots) changed) (made : ColumnValue) (flags : List Bool) (is_made : made ≡ pushed rows Nil) (is_flags : flags ≡ present ++ false ∷ []) where
    flags_count : length (present ++ false ∷ []) ≡ count + 1
    flags_count = length-append present (false ∷ [])

    null_slots : rows_of (present ++ false ∷ []) (rows_across changed 0 (length (present ++ false ∷ []))) ≡ before.slots ++ Nil ∷ []
    null_slots =
        let at : 0 + count ≡ count = omega arith in
        ap (λ n. rows_of (present ++ false ∷ []) (rows_across changed 0 n)) flags_count
        ∙ ap (rows_of (present ++ false ∷ [])) (rows_split changed 0 count 1 ∙ ap (λ xs. xs ++ rows_across changed (0 + count) 1) (kept_rows count fields changed keep))
        ∙ rows_append present (false ∷ []) (rows_across fields 0 count) (rows_across changed (0 + count) 1) (across_count fields 0 count)

    pub null_view : struct_column made flags changed ≡ pushed before Nil
    null_view =
        struct_alike made (pushed rows Nil) flags (present ++ false ∷ []) changed changed is_made is_flags refl
        ∙ ap (λ ps. record (pushed before Nil) { dtype = StructOf (fields_of ps); slots = rows_of (present ++ false ∷ []) (rows_across changed 0 (length (present ++ false ∷ []))) }) (kept_parts count fields changed keep)
        ∙ ap (λ ss. record (pushed before Nil) { slots = ss }) null_slots

    pub null_struct : IsStruct made flags changed
    null_struct =
        is_alike made (pushed rows Nil) flags (present ++ false ∷ []) changed changed is_made is_flags refl
        (record {
          flags = omega (arith, flags_count, length-append rows.slots (Nil ∷ []), is.flags);
          long = subst (λ (n : ℕ). All (λ f. n ≤ length f.slots) changed) (sym flags_count) long;
          distinct = distinct_alike fields changed (kept_parts count fields changed keep) is.distinct;
        })

-- ---- others behind

joined_parts : (n m : ℕ) (fs os gs : Frame) → AreJoined n m fs os gs → map field_part gs ≡ map field_part fs
joined_parts n m [] [] [] are = refl
joined_parts n m [] [] (g ∷ gs) are = absurd are
joined_parts n m [] (o ∷ os) gs are = absurd are
joined_parts n m (f ∷ fs) [] gs are = absurd are
joined_parts n m (f ∷ fs) (o ∷ os) [] are = absurd are
joined_parts n m (f ∷ fs) (o ∷ os) (g ∷ gs) are =
    ap (λ p. p ∷ map field_part gs) are.0.part ∙ ap (λ ps. field_part f ∷ ps) (joined_parts n m fs os gs are.1)

module _ (n m : ℕ) where
  first_count : (f : ColumnValue) → n ≤ length f.slots → length (take n f.slots) ≡ n
  first_count f le = omega (arith, length-take n f.slots, le)

  joined_front : (fs os gs : Frame) (i : ℕ) → i < n → AllByRecursion (λ f. n ≤ length f.slots) fs → AreJoined n m fs os gs → across gs i ≡ across fs i
  joined_front [] [] [] i lt all are = refl
  joined_front [] [] (g ∷ gs) i lt all are = absurd are
  joined_front [] (o ∷ os) gs i lt all are = absurd are
  joined_front (f ∷ fs) [] gs i lt all are = absurd are
  joined_front (f ∷ fs) (o ∷ os) [] i lt all are = absurd are
  joined_front (f ∷ fs) (o ∷ os) (g ∷ gs) i lt all are =
      let inside : i < length (take n f.slots) = omega (arith, lt, first_count f all.0) in
      let same : slot_at g.slots i ≡ slot_at f.slots i = ap (λ ss. slot_at ss i) are.0.rows ∙ get_or_append_left (take n f.slots) (take m o.slots) Nil i inside ∙ get_or-take n f.slots i Nil lt in
      ap (λ s. s ∷ across gs i) same ∙ ap (λ ss. slot_at f.slots i ∷ ss) (joined_front fs os gs i lt all.1 are.1)

  joined_back : (fs os gs : Frame) (i : ℕ) → i < m → AllByRecursion (λ f. n ≤ length f.slots) fs → AreJoined n m fs os gs → across gs (n + i) ≡ across os i
  joined_back [] [] [] i lt all are = refl
  joined_back [] [] (g ∷ gs) i lt all are = absurd are
  joined_back [] (o ∷ os) gs i lt all are = absurd are
  joined_back (f ∷ fs) [] gs i lt all are = absurd are
  joined_back (f ∷ fs) (o ∷ os) [] i lt all are = absurd are
  joined_back (f ∷ fs) (o ∷ os) (g ∷ gs) i lt all are =
      let at : n + i ≡ length (take n f.slots) + i = omega (arith, first_count f all.0) in
      let same : slot_at g.slots (n + i) ≡ slot_at o.slots i =
      ap (λ ss. slot_at ss (n + i)) are.0.rows ∙ ap (slot_at (take n f.slots ++ take m o.slots)) at ∙ get_or-append-add (take n f.slots) (take m o.slots) i Nil ∙ get_or-take m o.slots i Nil lt in
      ap (λ s. s ∷ across gs (n + i)) same ∙ ap (λ ss. slot_at o.slots i ∷ ss) (joined_back fs os gs i lt all.1 are.1)

  joined_long : (fs os gs : Frame) → AllByRecursion (λ f. n ≤ length f.slots) fs → AllByRecursion (λ f. m ≤ length f.slots) os → AreJoined n m fs os gs → AllByRecursion (λ f. n + m ≤ length f.slots) gs
  joined_long [] [] [] all also are = tt
  joined_long [] [] (g ∷ gs) all also are = absurd are
  joined_long [] (o ∷ os) gs all also are = absurd are
  joined_long (f ∷ fs) [] gs all also are = absurd are
  joined_long (f ∷ fs) (o ∷ os) [] all also are = absurd are
  joined_long (f ∷ fs) (o ∷ os) (g ∷ gs) all also are =
      (omega (arith, ap (λ (ss : List Slot). length ss) are.0.rows, length-append (take n f.slots) (take m o.slots), length-take n f.slots, length-take m o.slots, all.0, also.0), joined_long fs os gs all.1 also.1 are.1)

module _ (rows : ColumnValue) (present : List Bool) (fields : Frame) (is : IsStruct rows present fields) (others : ColumnValue) (flags : List Bool) (inner : Frame) (also : IsStruct others flags inner)
    (made : ColumnValue) (made_flags : List Bool) (joined : Frame) (is_made : made ≡ appended rows others) (is_flags : made_flags ≡ present ++ flags) (are : AreJoined (length present) (length flags) fields inner joined) where
  abbrev own : ColumnValue
  own = struct_column rows present fields

  abbrev other : ColumnValue
  other = struct_column others flags inner

  abbrev n : ℕ
  n = length present

  abbrev m : ℕ
  m = length flags

  own_long : AllByRecursion (λ f. n ≤ length f.slots) fields
  own_long = recursion_from_All (λ f. n ≤ length f.slots) fields is.long

  both_count : length (present ++ flags) ≡ n + m
  both_count = length-append present flags

  rows_joined : rows_across joined 0 (n + m) ≡ rows_across fields 0 n ++ rows_across inner 0 m
  rows_joined =
      let front = same_rows joined fields 0 0 n (λ i lt. joined_front n m fields inner joined (0 + i) (omega (arith, lt)) own_long are) in
      let at = λ (i : ℕ) (lt : i < m).
      let left : (0 + n) + i ≡ n + i = omega arith in
      let right : i ≡ 0 + i = omega arith in
      ap (across joined) left ∙ joined_back n m fields inner joined i lt own_long are ∙ ap (across inner) right in
      rows_split joined 0 n m ∙ ap (λ xs. xs ++ rows_across joined (0 + n) m) front
      ∙ ap (λ xs. rows_across fields 0 n ++ xs) (same_rows joined inner (0 + n) 0 m at)

  joined_slots : rows_of (present ++ flags) (rows_across joined 0 (length (present ++ flags))) ≡ own.slots ++ other.slots
  joined_slots =
      ap (λ k. rows_of (present ++ flags) (rows_across joined 0 k)) both_count ∙ ap (rows_of (present ++ flags)) rows_joined
      ∙ rows_append present flags (rows_across fields 0 n) (rows_across inner 0 m) (across_count fields 0 n)

  pub joined_view : struct_column made made_flags joined ≡ appended own other
  joined_view =
      struct_alike made (appended rows others) made_flags (present ++ flags) joined joined is_made is_flags refl
      ∙ ap (λ ps. record (appended own other) { dtype = StructOf (fields_of ps); slots = rows_of (present ++ flags) (rows_across joined 0 (length (present ++ flags))) }) (joined_parts n m fields inner joined are)
      ∙ ap (λ ss. record (appended own other) { slots = ss }) joined_slots

  pub joined_struct : IsStruct made made_flags joined
  joined_struct =
      is_alike made (appended rows others) made_flags (present ++ flags) joined joined is_made is_flags refl
      (record {
        flags = omega (arith, both_count, length-append rows.slots others.slots, is.flags, also.flags);
        long =
            subst (λ (k : ℕ). All (λ f. k ≤ length f.slots) joined) (sym both_count)
            (All-from_recursion (λ f. n + m ≤ length f.slots) joined (joined_long n m fields inner joined own_long (recursion_from_All (λ f. m ≤ length f.slots) inner also.long) are));
        distinct = distinct_alike fields joined (joined_parts n m fields inner joined are) is.distinct;
      })

-- ---- loops over fields as they are stored

module _ {S : Type 0} (value : S → ColumnValue) (P : ColumnValue → Type 0) (xs : List S) (i : ℕ) (x : S) (lt : i < length xs) (read : x ≡ get_or xs i x) where
  -- what holds of every field holds of the one at hand
  pub all_at : All P (map value xs) → P (value x)
  all_at all =
      subst P (get_or-map value xs i x (value x) lt ∙ ap value (sym read))
      (All-get_or P (map value xs) i (value x) (omega (arith, lt, length-map xs value)) all)

  pub all_more : All P (map value (take i xs)) → P (value x) → All P (map value (take (i + 1) xs))
  all_more all one =
      let more : map value (take (i + 1) xs) ≡ map value (take i xs) ++ value x ∷ [] =
      ap (map value) (take_more xs i x lt ∙ ap (λ y. take i xs ++ y ∷ []) (sym read)) ∙ map-append value (take i xs) (x ∷ []) in
      subst (λ (vs : Frame). All P vs) (sym more) (All-append P (map value (take i xs)) (value x ∷ []) all (All-from_recursion P (value x ∷ []) (one, tt)))

-- the first fields have a row more than so many
abbrev pub LongUpTo : ℕ → ℕ → Frame → Type 0
LongUpTo n zero gs = Unit {0}
LongUpTo n (suc i) [] = Unit {0}
LongUpTo n (suc i) (g ∷ gs) = (n + 1 ≤ length g.slots) × LongUpTo n i gs

long_more : (n i : ℕ) (gs : Frame) (g : ColumnValue) → LongUpTo n i gs → i < length gs → n + 1 ≤ length g.slots → LongUpTo n (suc i) (set gs i g)
long_more n i [] g up lt long = absurd (omega (arith, lt))
long_more n zero (x ∷ xs) g up lt long = (long, tt)
long_more n (suc i) (x ∷ xs) g up lt long = (up.0, long_more n i xs g up.1 (omega (arith, lt)) long)

long_all : (n i : ℕ) (gs : Frame) → LongUpTo n i gs → length gs ≤ i → AllByRecursion (λ f. n + 1 ≤ length f.slots) gs
long_all n i [] up le = tt
long_all n zero (g ∷ gs) up le = absurd (omega (arith, le))
long_all n (suc i) (g ∷ gs) up le = (up.0, long_all n i gs up.1 (omega (arith, le)))

pub long_end : (n i : ℕ) (gs : Frame) → LongUpTo n i gs → length gs ≤ i → All (λ f. n + 1 ≤ length f.slots) gs
long_end n i gs up le = All-from_recursion (λ f. n + 1 ≤ length f.slots) gs (long_all n i gs up le)

keep_set : (n i : ℕ) (fs gs : Frame) (d g : ColumnValue) → KeepAll n fs gs → i < length gs → KeepsRows n (get_or gs i d) g → KeepAll n fs (set gs i g)
keep_set n i [] [] d g keep lt one = absurd (omega (arith, lt))
keep_set n i [] (x ∷ xs) d g keep lt one = absurd keep
keep_set n i (f ∷ fs) [] d g keep lt one = absurd keep
keep_set n zero (f ∷ fs) (x ∷ xs) d g keep lt one = (record { part = one.part ∙ keep.0.part; rows = one.rows ∙ keep.0.rows }, keep.1)
keep_set n (suc i) (f ∷ fs) (x ∷ xs) d g keep lt one = (keep.0, keep_set n i fs xs d g keep.1 (omega (arith, lt)) one)

-- a turn of the loops that change each field in its place
module _ {S : Type 0} (value : S → ColumnValue) (n : ℕ) (fs : Frame) (xs : List S) (i : ℕ) (x new : S) (lt : i < length xs) (read : x ≡ get_or xs i x) where
  below : i < length (map value xs)
  below = omega (arith, lt, length-map xs value)

  stored : get_or (map value xs) i (value x) ≡ value x
  stored = get_or-map value xs i x (value x) lt ∙ ap value (sym read)

  pub keep_turn : KeepAll n fs (map value xs) → KeepsRows n (value x) (value new) → KeepAll n fs (map value (set xs i new))
  keep_turn keep one =
      subst (λ (vs : Frame). KeepAll n fs vs) (sym (map-set value xs i new))
      (keep_set n i fs (map value xs) (value x) (value new) keep below (subst (λ (v : ColumnValue). KeepsRows n v (value new)) (sym stored) one))

  pub long_turn : LongUpTo n i (map value xs) → n + 1 ≤ length (value new).slots → LongUpTo n (i + 1) (map value (set xs i new))
  long_turn up long =
      let next : suc i ≡ i + 1 = omega arith in
      subst (λ (k : ℕ). LongUpTo n k (map value (set xs i new))) next
      (subst (λ (vs : Frame). LongUpTo n (suc i) vs) (sym (map-set value xs i new)) (long_more n i (map value xs) (value new) up below long))

-- ---- the loop that appends: the first fields are joined, the others and those that are left are as they were

abbrev pub JoinsAt : ℕ → ℕ → ℕ → Frame → Frame → Frame → Frame → Type 0
JoinsAt n m zero fs os gs rest = (gs ≡ fs) × (rest ≡ os)
JoinsAt n m (suc i) (f ∷ fs) (o ∷ os) (g ∷ gs) rest = IsJoined n m f o g × JoinsAt n m i fs os gs rest
JoinsAt n m (suc i) [] os gs rest = ⊥
JoinsAt n m (suc i) (f ∷ fs) [] gs rest = ⊥
JoinsAt n m (suc i) (f ∷ fs) (o ∷ os) [] rest = ⊥

module _ (n m : ℕ) where
  joins_rest : (i : ℕ) (fs os gs rest : Frame) → JoinsAt n m i fs os gs rest → rest ≡ drop i os
  joins_rest zero fs os gs rest at = at.1
  joins_rest (suc i) [] os gs rest at = absurd at
  joins_rest (suc i) (f ∷ fs) [] gs rest at = absurd at
  joins_rest (suc i) (f ∷ fs) (o ∷ os) [] rest at = absurd at
  joins_rest (suc i) (f ∷ fs) (o ∷ os) (g ∷ gs) rest at = joins_rest i fs os gs rest at.1

  joins_own : (i : ℕ) (fs os gs rest : Frame) (d : ColumnValue) → JoinsAt n m i fs os gs rest → get_or gs i d ≡ get_or fs i d
  joins_own zero fs os gs rest d at = ap (λ (vs : Frame). get_or vs 0 d) at.0
  joins_own (suc i) [] os gs rest d at = absurd at
  joins_own (suc i) (f ∷ fs) [] gs rest d at = absurd at
  joins_own (suc i) (f ∷ fs) (o ∷ os) [] rest d at = absurd at
  joins_own (suc i) (f ∷ fs) (o ∷ os) (g ∷ gs) rest d at = joins_own i fs os gs rest d at.1

  pub joins_long : (i : ℕ) (fs os gs rest : Frame) → JoinsAt n m i fs os gs rest → length gs ≡ length fs
  joins_long zero fs os gs rest at = ap (λ (vs : Frame). length vs) at.0
  joins_long (suc i) [] os gs rest at = absurd at
  joins_long (suc i) (f ∷ fs) [] gs rest at = absurd at
  joins_long (suc i) (f ∷ fs) (o ∷ os) [] rest at = absurd at
  joins_long (suc i) (f ∷ fs) (o ∷ os) (g ∷ gs) rest at = ap suc (joins_long i fs os gs rest at.1)

  first_is : (o o' : ColumnValue) (os os' : Frame) → o ∷ os ≡ o' ∷ os' → o ≡ o'
  first_is o o' os os' e = cc

  later_are : (o o' : ColumnValue) (os os' : Frame) → o ∷ os ≡ o' ∷ os' → os ≡ os'
  later_are o o' os os' e = cc

  joins_suc : (i : ℕ) (fs os gs rest : Frame) (d o g : ColumnValue) → JoinsAt n m i fs os gs (o ∷ rest) → i < length fs → IsJoined n m (get_or fs i d) o g → JoinsAt n m (suc i) fs os (set gs i g) rest
  joins_suc i [] os gs rest d o g at lt one = absurd (omega (arith, lt))
  joins_suc zero (f ∷ fs) [] gs rest d o g at lt one = let e : o ∷ rest ≡ [] = at.1 in cc
  joins_suc zero (f ∷ fs) (x ∷ os) [] rest d o g at lt one = let e : [] ≡ f ∷ fs = at.0 in cc
  joins_suc zero (f ∷ fs) (x ∷ os) (y ∷ gs) rest d o g at lt one =
      (subst (λ (v : ColumnValue). IsJoined n m f v g) (first_is o x rest os at.1) one, (later_are y f gs fs at.0, later_are o x rest os at.1))
  joins_suc (suc i) (f ∷ fs) [] gs rest d o g at lt one = absurd at
  joins_suc (suc i) (f ∷ fs) (x ∷ os) [] rest d o g at lt one = absurd at
  joins_suc (suc i) (f ∷ fs) (x ∷ os) (y ∷ gs) rest d o g at lt one = (at.0, joins_suc i fs os gs rest d o g at.1 (omega (arith, lt)) one)

  joins_all : (i : ℕ) (fs os gs rest : Frame) → JoinsAt n m i fs os gs rest → length fs ≤ i → length os ≡ length fs → AreJoined n m fs os gs
  joins_all zero [] [] [] rest at le long = tt
  joins_all zero [] [] (g ∷ gs) rest at le long = let e : g ∷ gs ≡ [] = at.0 in cc
  joins_all i [] (o ∷ os) gs rest at le long = absurd (omega (arith, long))
  joins_all zero (f ∷ fs) os gs rest at le long = absurd (omega (arith, le))
  joins_all (suc i) [] [] gs rest at le long = absurd at
  joins_all (suc i) (f ∷ fs) [] gs rest at le long = absurd at
  joins_all (suc i) (f ∷ fs) (o ∷ os) [] rest at le long = absurd at
  joins_all (suc i) (f ∷ fs) (o ∷ os) (g ∷ gs) rest at le long = (at.0, joins_all i fs os gs rest at.1 (omega (arith, le)) (omega (arith, long)))

  keeps_joined : (f o g : ColumnValue) → n ≤ length f.slots → IsJoined n m f o g → KeepsRows n f g
  keeps_joined f o g le is = record {
    part = is.part;
    rows =
        let all : length (take n f.slots) ≡ n = omega (arith, length-take n f.slots, le) in
        ap (take n) is.rows ∙ ap (λ k. take k (take n f.slots ++ take m o.slots)) (sym all) ∙ take-append_seam (take n f.slots) (take m o.slots);
  }

  joins_kept : (i : ℕ) (fs os gs rest : Frame) → JoinsAt n m i fs os gs rest → AllByRecursion (λ f. n ≤ length f.slots) fs → KeepAll n fs gs
  joins_kept zero fs os gs rest at all = subst (λ (vs : Frame). KeepAll n fs vs) (sym at.0) (keep_same n fs)
  joins_kept (suc i) [] os gs rest at all = absurd at
  joins_kept (suc i) (f ∷ fs) [] gs rest at all = absurd at
  joins_kept (suc i) (f ∷ fs) (o ∷ os) [] rest at all = absurd at
  joins_kept (suc i) (f ∷ fs) (o ∷ os) (g ∷ gs) rest at all = (keeps_joined f o g all.0 at.0, joins_kept i fs os gs rest at.1 all.1)

  -- the other that is next
  next_other : (i : ℕ) (os : Frame) (o : ColumnValue) (rest : Frame) → o ∷ rest ≡ drop i os → (d : ColumnValue) → get_or os i d ≡ o
  next_other i [] o rest e d = let none : o ∷ rest ≡ [] = e ∙ drop-nil i in cc
  next_other zero (x ∷ os) o rest e d = first_is x o os rest (sym e)
  next_other (suc i) (x ∷ os) o rest e d = next_other i os o rest e d

-- a turn of that loop
module _ {S : Type 0} (value : S → ColumnValue) (n m : ℕ) (fs os : Frame) (xs rest later : List S) (i : ℕ) (x other : S)
    (at : JoinsAt n m i fs os (map value xs) (map value rest)) (popped : rest ≡ other ∷ later) (lt : i < length xs) (read : x ≡ get_or xs i x)
    (parts : map field_part os ≡ map field_part fs) (long : All (λ f. n ≤ length f.slots) fs) (also : All (λ f. m ≤ length f.slots) os) where
  at_hand : JoinsAt n m i fs os (map value xs) (value other ∷ map value later)
  at_hand = subst (λ (r : List S). JoinsAt n m i fs os (map value xs) (map value r)) popped at

  inside : i < length fs
  inside = omega (arith, lt, length-map xs value, joins_long n m i fs os (map value xs) (map value rest) at)

  as_many : length os ≡ length fs
  as_many = sym (length-map os field_part) ∙ ap length parts ∙ length-map fs field_part

  own_is : get_or fs i (value x) ≡ value x
  own_is = sym (joins_own n m i fs os (map value xs) (map value rest) (value x) at) ∙ get_or-map value xs i x (value x) lt ∙ ap value (sym read)

  other_is : get_or os i (value other) ≡ value other
  other_is = next_other n m i os (value other) (map value later) (joins_rest n m i fs os (map value xs) (value other ∷ map value later) at_hand) (value other)

  part_at : (ps : Frame) (d : ColumnValue) → i < length ps → get_or (map field_part ps) i (field_part d) ≡ field_part (get_or ps i d)
  part_at ps d less = get_or-map field_part ps i d (field_part d) less

  any_default : (ps : List (List ℕ × ColumnType)) (k : ℕ) (d e : List ℕ × ColumnType) → k < length ps → get_or ps k d ≡ get_or ps k e
  any_default [] k d e less = absurd (omega (arith, less))
  any_default (p ∷ ps) zero d e less = refl
  any_default (p ∷ ps) (suc k) d e less = any_default ps k d e (omega (arith, less))

  pub turn_inside : i < length fs
  turn_inside = inside

  pub turn_own : get_or fs i (value x) ≡ value x
  turn_own = own_is

  pub turn_typed : (value other).dtype ≡ (value x).dtype
  turn_typed =
      let others : i < length os = omega (arith, inside, as_many) in
      let many : i < length (map field_part fs) = omega (arith, inside, length-map fs field_part) in
      let same : field_part (get_or os i (value other)) ≡ field_part (get_or fs i (value x)) =
      sym (part_at os (value other) others) ∙ ap (λ ps. get_or ps i (field_part (value other))) parts
      ∙ any_default (map field_part fs) i (field_part (value other)) (field_part (value x)) many ∙ part_at fs (value x) inside in
      ap (λ (v : ColumnValue). v.dtype) (sym other_is) ∙ ap (λ p. p.1) same ∙ ap (λ (v : ColumnValue). v.dtype) own_is

  pub turn_long : n ≤ length (value x).slots
  turn_long = subst (λ (v : ColumnValue). n ≤ length v.slots) own_is (All-get_or (λ f. n ≤ length f.slots) fs i (value x) inside long)

  pub turn_other : m ≤ length (value other).slots
  turn_other =
      subst (λ (v : ColumnValue). m ≤ length v.slots) other_is
      (All-get_or (λ f. m ≤ length f.slots) os i (value other) (omega (arith, inside, as_many)) also)

  module _ (new : S) where
    pub turn_joined : IsJoined n m (value x) (value other) (value new) → JoinsAt n m (i + 1) fs os (map value (set xs i new)) (map value later)
    turn_joined one =
        let next : suc i ≡ i + 1 = omega arith in
        subst (λ (k : ℕ). JoinsAt n m k fs os (map value (set xs i new)) (map value later)) next
        (subst (λ (vs : Frame). JoinsAt n m (suc i) fs os vs (map value later)) (sym (map-set value xs i new))
        (joins_suc n m i fs os (map value xs) (map value later) (value x) (value other) (value new) at_hand inside
        (subst (λ (v : ColumnValue). IsJoined n m v (value other) (value new)) (sym own_is) one)))

    pub turn_kept : KeepsRows n (value x) (value new) → KeepAll n fs (map value (set xs i new))
    turn_kept one =
        keep_turn value n fs xs i x new lt read (joins_kept n m i fs os (map value xs) (map value rest) at (recursion_from_All (λ f. n ≤ length f.slots) fs long)) one

pub joined_end : (n m i : ℕ) (fs os gs rest : Frame) → JoinsAt n m i fs os gs rest → length gs ≤ i → map field_part os ≡ map field_part fs → AreJoined n m fs os gs
joined_end n m i fs os gs rest at le parts =
    let many : length os ≡ length fs = sym (length-map os field_part) ∙ ap length parts ∙ length-map fs field_part in
    joins_all n m i fs os gs rest at (omega (arith, le, joins_long n m i fs os gs rest at)) many

pub joined_kept : (n m i : ℕ) (fs os gs rest : Frame) → JoinsAt n m i fs os gs rest → All (λ f. n ≤ length f.slots) fs → KeepAll n fs gs
joined_kept n m i fs os gs rest at long = joins_kept n m i fs os gs rest at (recursion_from_All (λ f. n ≤ length f.slots) fs long)

-- while some fields are left, others are
pub others_left : (n m i : ℕ) (fs os gs : Frame) → JoinsAt n m i fs os gs [] → i < length gs → map field_part os ≡ map field_part fs → ⊥
others_left n m i fs os gs at lt parts =
    omega (arith, ap (λ (vs : Frame). length vs) (joins_rest n m i fs os gs [] at), length-drop i os, lt, joins_long n m i fs os gs [] at, sym (length-map os field_part) ∙ ap length parts ∙ length-map fs field_part)

-- a row of the flags is one of each field
pub rows_below : (n row : ℕ) (fs : Frame) → row < n → All (λ f. n ≤ length f.slots) fs → All (λ f. row < length f.slots) fs
rows_below n row fs lt all = All-from_recursion (λ f. row < length f.slots) fs (each fs (recursion_from_All (λ f. n ≤ length f.slots) fs all))
  where
    each : (gs : Frame) → AllByRecursion (λ f. n ≤ length f.slots) gs → AllByRecursion (λ f. row < length f.slots) gs
    each [] every = tt
    each (g ∷ gs) every = (omega (arith, lt, every.0), each gs every.1)

-- the row across the first fields, one field more
pub across_more : {S : Type 0} (value : S → ColumnValue) (xs : List S) (i : ℕ) (x : S) (row : ℕ) → i < length xs → x ≡ get_or xs i x →
    across (map value (take (i + 1) xs)) row ≡ across (map value (take i xs)) row ++ slot_at (value x).slots row ∷ []
across_more value xs i x row lt read =
    let frame_more : map value (take (i + 1) xs) ≡ map value (take i xs) ++ value x ∷ [] =
    ap (map value) (take_more xs i x lt ∙ ap (λ y. take i xs ++ y ∷ []) (sym read)) ∙ map-append value (take i xs) (x ∷ []) in
    ap (λ (vs : Frame). across vs row) frame_more ∙ map-append (λ (f : ColumnValue). slot_at f.slots row) (map value (take i xs)) (value x ∷ [])

-- the slot of one field in a row
pub across_at : {S : Type 0} (value : S → ColumnValue) (xs : List S) (i : ℕ) (x : S) (row : ℕ) → i < length xs → x ≡ get_or xs i x → get_or (across (map value xs) row) i Nil ≡ slot_at (value x).slots row
across_at value xs i x row lt read =
    let inside : i < length (map value xs) = omega (arith, lt, length-map xs value) in
    get_or-map (λ (f : ColumnValue). slot_at f.slots row) (map value xs) i (value x) Nil inside
    ∙ ap (λ (v : ColumnValue). slot_at v.slots row) (get_or-map value xs i x (value x) lt ∙ ap value (sym read))

-- the text of the first fields, one field more
pub fields_text : {S : Type 0} (value : S → ColumnValue) (xs : List S) (i : ℕ) (x : S) (row : ℕ) (before so_far with_comma whole : List ℕ) → i < length xs → x ≡ get_or xs i x →
    so_far ≡ before ++ (91 ∷ parts_text (struct_type (map value xs)) 0 (items_of (across (map value (take i xs)) row))) → with_comma ≡ so_far ++ comma_behind i →
    whole ≡ with_comma ++ part_text (value x).dtype (slot_at (value x).slots row) →
    whole ≡ before ++ (91 ∷ parts_text (struct_type (map value xs)) 0 (items_of (across (map value (take (i + 1) xs)) row)))
fields_text value xs i x row before so_far with_comma whole lt read here comma item =
    let t = struct_type (map value xs) in
    let s = slot_at (value x).slots row in
    let so = across (map value (take i xs)) row in
    let parts = parts_text t 0 (items_of so) in
    let last = λ (u : ColumnType). comma_behind i ++ part_text u s in
    let count : 0 + length so ≡ i =
    omega (arith, lt, length-map (map value (take i xs)) (λ (f : ColumnValue). slot_at f.slots row), length-map (take i xs) value, length-take i xs) in
    let typed : part_type t i ≡ (value x).dtype =
    field_type_at (map value xs) i (value x) (omega (arith, lt, length-map xs value)) ∙ ap (λ (v : ColumnValue). v.dtype) (get_or-map value xs i x (value x) lt ∙ ap value (sym read)) in
    let more : parts_text t 0 (items_of (across (map value (take (i + 1) xs)) row)) ≡ parts ++ last (value x).dtype =
    ap (λ ss. parts_text t 0 (items_of ss)) (across_more value xs i x row lt read) ∙ parts_more t 0 so s
    ∙ ap (λ n. parts ++ (comma_behind n ++ part_text (part_type t n) s)) count ∙ ap (λ u. parts ++ last u) typed in
    item ∙ ap (λ text. text ++ part_text (value x).dtype s) (comma ∙ ap (λ text. text ++ comma_behind i) here)
    ∙ append_assoc (before ++ (91 ∷ parts)) (comma_behind i) (part_text (value x).dtype s)
    ∙ append_assoc before (91 ∷ parts) (last (value x).dtype) ∙ ap (λ text. before ++ (91 ∷ text)) (sym more)

-- ---- one field

-- a field is no deeper than all of them
pub depth_at : (fs : Frame) (i : ℕ) (d : ColumnValue) → i < length fs → depth (get_or fs i d).dtype ≤ fields_depth (fields_of (map field_part fs))
depth_at [] i d lt = absurd (omega (arith, lt))
depth_at (f ∷ fs) zero d lt = omega arith
depth_at (f ∷ fs) (suc i) d lt = omega (arith, depth_at fs i d (omega (arith, lt)))

-- the same of one that is read
pub depth_read : {S : Type 0} (value : S → ColumnValue) (xs : List S) (i : ℕ) (x : S) → i < length xs → x ≡ get_or xs i x →
    depth (value x).dtype ≤ fields_depth (fields_of (map field_part (map value xs)))
depth_read value xs i x lt read =
    let here : get_or (map value xs) i (value x) ≡ value x = get_or-map value xs i x (value x) lt ∙ ap value (sym read) in
    omega (arith, depth_at (map value xs) i (value x) (omega (arith, lt, length-map xs value)), ap (λ (v : ColumnValue). depth v.dtype) here)

-- the first rows, so many
first_rows : (slots : List Slot) (count : ℕ) → count ≤ length slots → shown slots (pos 0) count ≡ take count slots
first_rows slots count le =
    let same : count ≡ count - 0 = omega arith in
    ap (shown slots (pos 0)) same ∙ shown_part slots 0 count (omega arith) le ∙ ap (λ n. take n slots) (sym same)

pub cut_count : (f g : ColumnValue) (count : ℕ) → count ≤ length f.slots → g ≡ sliced (pos 0) count f → length g.slots ≡ count
cut_count f g count le is =
    let rows = ap (λ (v : ColumnValue). v.slots) is ∙ first_rows f.slots count le in
    omega (arith, ap (λ (ss : List Slot). length ss) rows, length-take count f.slots, le)

pub cut_kept : (f g : ColumnValue) (count : ℕ) → count ≤ length f.slots → g ≡ sliced (pos 0) count f → KeepsRows count f g
cut_kept f g count le is = record {
  part = ap field_part is;
  rows =
      let rows = ap (λ (v : ColumnValue). v.slots) is ∙ first_rows f.slots count le in
      take_all count g.slots (omega (arith, cut_count f g count le is)) ∙ rows;
}

-- a field that is made of two that were cut
pub joined_field : (n m : ℕ) (f o c d g : ColumnValue) → KeepsRows n f c → length c.slots ≡ n → KeepsRows m o d → length d.slots ≡ m → g ≡ appended c d → IsJoined n m f o g
joined_field n m f o c d g keep long also wide is =
    let own : c.slots ≡ take n f.slots = sym (take_all n c.slots (omega (arith, long))) ∙ keep.rows in
    let other : d.slots ≡ take m o.slots = sym (take_all m d.slots (omega (arith, wide))) ∙ also.rows in
    record {
      part = ap field_part is ∙ keep.part;
      rows = ap (λ (v : ColumnValue). v.slots) is ∙ ap (λ ss. ss ++ d.slots) own ∙ ap (λ ss. take n f.slots ++ ss) other;
    }

pub field_kept : (n m : ℕ) (f o g : ColumnValue) → n ≤ length f.slots → IsJoined n m f o g → KeepsRows n f g
field_kept n m f o g le is = keeps_joined n m f o g le is

-- a field that keeps its first rows is as deep as it was
pub depth_kept : (n : ℕ) (fs gs : Frame) (i : ℕ) (d : ColumnValue) → i < length gs → KeepAll n fs gs → depth (get_or gs i d).dtype ≤ fields_depth (fields_of (map field_part fs))
depth_kept n fs gs i d lt keep =
    let parts = kept_parts n fs gs keep in
    omega (arith, depth_at gs i d lt, ap (λ ps. fields_depth (fields_of ps)) parts)
